-- A test holds of a type exactly where it holds by some record of it.
use Prim.Native.Nat.{ℕ}
use mathlib.Core.Bool.{Bool, true, false, not, cond, ◌&&◌, ◌||◌, true≢false, false≢true}
use mathlib.Core.Path.{◌≡◌, refl, ap, ap₂, ◌∙◌}
use mathlib.Core.List.{List, [], ◌∷◌, ◌++◌}
use lib.Dec.{eqb}
use Rattle.meaning.specs.Lists.{any}
use Rattle.meaning.specs.References.{is_constant}
use Rattle.meaning.specs.Sizes.{type_size_depends_on_field_refs_recursive, member_size_depends, some_size_depends, type_contains_jagged_array, member_contains_jagged, some_contains_jagged}
use Rattle.meaning.specs.Tree.{Expr, literal, field_ref, sizeof, alignof, binary, unary, Ty, primitive, type_ref, struct, union, enum, array, size_union, Member, member, Members, more}
use Rattle.scan.specs.Parts.{Part, other, lead, reference, arrayed, sized, expr_parts, type_parts, member_parts, members_parts, is_lead}
use Rattle.scan.specs.Scan.{stops, from_stop}
use Rattle.sizes.specs.Tests.{known}
use Rattle.size_tests.specs.Scans.{inline_of, inline_holds, counts, some_counts}

any_append : (f : Part → Bool) (ps qs : List Part) → any f (ps ++ qs) ≡ (any f ps || any f qs)
any_append f [] qs = refl
any_append f (p ∷ ps) qs = ap (f p ||◌) (any_append f ps qs) ∙ go (f p) (any f ps) (any f qs)
  where
    go : (x y z : Bool) → (x || (y || z)) ≡ ((x || y) || z)
    go true y z = refl
    go false y z = refl

module _ (known : ℕ → Bool) where
  -- the size test
  expr_size : (e : Expr) → any (counts false known) (expr_parts e) ≡ not (is_constant e)
  expr_size (literal k v) = refl
  expr_size (field_ref path) = refl
  expr_size (sizeof n) = refl
  expr_size (alignof n) = refl
  expr_size (binary k l r) = any_append (counts false known) (expr_parts l) (expr_parts r) ∙ ap₂ ◌||◌ (expr_size l) (expr_size r) ∙ go (is_constant l) (is_constant r)
    where
      go : (x y : Bool) → (not x || not y) ≡ not (x && y)
      go true y = refl
      go false y = refl
  expr_size (unary k e) = expr_size e

  mutual
    type_size : (t : Ty) → any (counts false known) (type_parts t) ≡ type_size_depends_on_field_refs_recursive t known
    type_size (primitive k) = refl
    type_size (type_ref n) = go (known n)
      where
        go : (x : Bool) → (x || false) ≡ x
        go true = refl
        go false = refl
    type_size (struct a ms) = members_size ms
    type_size (union a ms) = members_size ms
    type_size (enum a tag ms) = any_append (counts false known) (expr_parts tag) (members_parts ms) ∙ ap₂ ◌||◌ (expr_size tag) (members_size ms)
    type_size (array a jagged size element) = any_append (counts false known) (expr_parts size) (type_parts element) ∙ ap₂ ◌||◌ (expr_size size) (type_size element)
    type_size (size_union a ms) = refl

    member_size : (m : Member) → any (counts false known) (member_parts m) ≡ member_size_depends m known
    member_size (member n v t) = type_size t

    pub members_size : (ms : Members) → any (counts false known) (members_parts ms) ≡ some_size_depends ms known
    members_size Members.none = refl
    members_size (more m ms) = any_append (counts false known) (member_parts m) (members_parts ms) ∙ ap₂ ◌||◌ (member_size m) (members_size ms)

  -- the jagged test
  expr_jagged : (e : Expr) → any (counts true known) (expr_parts e) ≡ false
  expr_jagged (literal k v) = refl
  expr_jagged (field_ref path) = refl
  expr_jagged (sizeof n) = refl
  expr_jagged (alignof n) = refl
  expr_jagged (binary k l r) = any_append (counts true known) (expr_parts l) (expr_parts r) ∙ ap₂ ◌||◌ (expr_jagged l) (expr_jagged r)
  expr_jagged (unary k e) = expr_jagged e

  behind_expr : (e : Expr) (ps : List Part) → any (counts true known) (expr_parts e ++ ps) ≡ any (counts true known) ps
  behind_expr e ps = any_append (counts true known) (expr_parts e) ps ∙ ap (◌|| any (counts true known) ps) (expr_jagged e)

  mutual
    type_jagged : (t : Ty) → any (counts true known) (type_parts t) ≡ type_contains_jagged_array t known
    type_jagged (primitive k) = refl
    type_jagged (type_ref n) = go (known n)
      where
        go : (x : Bool) → (x || false) ≡ x
        go true = refl
        go false = refl
    type_jagged (struct a ms) = members_jagged ms
    type_jagged (union a ms) = members_jagged ms
    type_jagged (enum a tag ms) = behind_expr tag (members_parts ms) ∙ members_jagged ms
    type_jagged (array a jagged size element) = ap (eqb jagged 1 ||◌) (behind_expr size (type_parts element) ∙ type_jagged element)
    type_jagged (size_union a ms) = members_jagged ms

    member_jagged : (m : Member) → any (counts true known) (member_parts m) ≡ member_contains_jagged m known
    member_jagged (member n v t) = type_jagged t

    members_jagged : (ms : Members) → any (counts true known) (members_parts ms) ≡ some_contains_jagged ms known
    members_jagged Members.none = refl
    members_jagged (more m ms) = any_append (counts true known) (member_parts m) (members_parts ms) ∙ ap₂ ◌||◌ (member_jagged m) (members_jagged ms)

-- either test
pub inline_counts : (j : Bool) (s : List ℕ) (t : Ty) → some_counts j s (type_parts t) ≡ inline_holds j s t
unfolding some_counts inline_holds
inline_counts j s t = go j
  where
    go : (j : Bool) → any (counts j (known j s)) (type_parts t) ≡ inline_of j t (known j s)
    go true = type_jagged (known true s) t
    go false = type_size (known false s) t

-- where a test stops, it holds, or the record leads
module _ (j : Bool) (s : List ℕ) where
  pub stop_counts : (p : Part) (ps : List Part) → stops (not j) j p ≡ true → is_lead p ≡ false → some_counts j s (p ∷ ps) ≡ true
  unfolding some_counts stops
  stop_counts other ps e l = absurd (false≢true e)
  stop_counts (lead n) ps e l = absurd (true≢false l)
  stop_counts reference ps e l = rw e
  stop_counts (arrayed k) ps e l = rw e
  stop_counts sized ps e l = rw e

  -- it does not hold by a record that is passed over
  either : (t : Bool) (p : Part) (ps qs : List Part) → counts j (known j s) p ≡ t → any (counts j (known j s)) qs ≡ any (counts j (known j s)) ps
      → any (counts j (known j s)) (cond t (p ∷ ps) qs) ≡ any (counts j (known j s)) (p ∷ ps)
  either true p ps qs e f = refl
  either false p ps qs e f = f ∙ rw e

  pub from_counts : (ps : List Part) → some_counts j s (from_stop (not j) j ps) ≡ some_counts j s ps
  unfolding some_counts from_stop stops
  from_counts [] = refl
  from_counts (other ∷ ps) = from_counts ps
  from_counts (lead n ∷ ps) = refl
  from_counts (reference ∷ ps) = either (not j) reference ps (from_stop (not j) j ps) refl (from_counts ps)
  from_counts (arrayed k ∷ ps) = either (j && eqb k 1) (arrayed k) ps (from_stop (not j) j ps) refl (from_counts ps)
  from_counts (sized ∷ ps) = either (not j) sized ps (from_stop (not j) j ps) refl (from_counts ps)

  -- one record and the others, and none
  pub counts_more : (p : Part) (ps : List Part) → some_counts j s (p ∷ ps) ≡ (counts j (known j s) p || some_counts j s ps)
  unfolding some_counts
  counts_more p ps = refl

  pub counts_none : some_counts j s [] ≡ false
  unfolding some_counts
  counts_none = refl
