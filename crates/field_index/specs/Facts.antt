-- What is noted is so in one way at most, so that it can be a field of a struct.
use Rattle.std.specs.Prelude.{ℕ, ◌+◌, ◌≤◌, ◌<◌, List, ◌≡◌, get_or}
use Rattle.std.proofs.Props.{props}
use mathlib.Core.HLevel.{collapsible→set, is_prop→PathP, Π_prop}
use mathlib.Core.Path.{refl, sym, ap, ◌∙◌}
use native.Mathlib.Nat.{ℕ_set}
use Rattle.meaning.specs.Tree.{Ty, Member, member}
use Rattle.bundle.specs.TreeSets.{Ty-set}
use Rattle.tree.specs.Tree.{Tree, number_at}
use Rattle.tree.specs.Facts.{Tree-prop, same_place}
use Rattle.field_index.specs.Noted.{tree_at, IsFirst, IsLast, HasName, NotedTo, NotedFor, FieldsNoted, DefinitionsNoted}

-- a field's parts
abbrev parts : Member → ℕ × (ℕ × Ty)
parts (member n v t) = (n, (v, t))

abbrev whole : ℕ × (ℕ × Ty) → Member
whole p = member p.0 p.1.0 p.1.1

whole_parts : (m : Member) → whole (parts m) ≡ m
whole_parts (member n v t) = refl

Parts-set : IsSet (ℕ × (ℕ × Ty))
Parts-set = Prim.hlevel (ℕ_set, Ty-set, props)

Member-set : IsSet Member
Member-set = collapsible→set (λ x y p. sym (whole_parts x) ∙ ap whole (ap parts p) ∙ whole_parts y) (λ x y p q. ap (λ (r : parts x ≡ parts y). sym (whole_parts x) ∙ ap whole r ∙ whole_parts y) (Parts-set (parts x) (parts y) (ap parts p) (ap parts q)))

HasName-prop : (notes : List ℕ) (a n d x : ℕ) → Tree notes (tree_at a n) d → IsProp (HasName notes a n d x)
HasName-prop notes a n d x tree p q =
    let e : p.0 ≡ q.0 = same_place tree p.0 q.0 p.1 q.1 (p.2 ∙ sym q.2) in
    λ i. (
      e i,
      is_prop→PathP (λ i. e i < d) (λ i. Prim.hlevel (props)) p.1 q.1 i,
      is_prop→PathP (λ i. number_at notes (tree_at a n) (e i) ≡ x) (λ i. Prim.hlevel (props)) p.2 q.2 i,
    )

NotedTo-prop : (ms : List Member) (notes : List ℕ) (a n d k : ℕ) → IsProp (NotedTo ms notes a n d k)
NotedTo-prop ms notes a n d k x y =
    let few : IsProp (d ≤ k) = Prim.hlevel (props) in
    let firsts : IsProp ((r : ℕ) → r < d → IsFirst ms k (number_at notes (tree_at a n) r) (get_or notes (a + 2 + r) 0)) = Prim.hlevel (props) in
    let lasts : IsProp ((r : ℕ) → r < d → IsLast ms k (number_at notes (tree_at a n) r) (get_or notes (a + 2 + n + r) 0)) = Prim.hlevel (props) in
    λ i. record {
      tree = Tree-prop notes (tree_at a n) d x.tree y.tree i;
      few = few x.few y.few i;
      all = Π_prop (λ j. Π_prop (λ (l : j < k). HasName-prop notes a n d _ x.tree)) x.all y.all i;
      firsts = firsts x.firsts y.firsts i;
      lasts = lasts x.lasts y.lasts i;
    }

NotedFor-prop : (ms : List Member) (notes : List ℕ) (a : ℕ) → IsProp (NotedFor ms notes a)
NotedFor-prop ms notes a = Prim.hlevel (NotedTo-prop, Member-set, props)

pub FieldsNoted-prop : (s places : List ℕ) (n : ℕ) → IsProp (FieldsNoted s places n)
FieldsNoted-prop s places n = Prim.hlevel (NotedFor-prop, props)

pub DefinitionsNoted-prop : (s places : List ℕ) (n : ℕ) → IsProp (DefinitionsNoted s places n)
DefinitionsNoted-prop s places n = Prim.hlevel (FieldsNoted-prop, props)
