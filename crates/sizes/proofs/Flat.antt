-- The records of an expression or type lie one after another: a scan over them meets its field references in the order in
-- which the tree has them.
--     Flat                   a run of bytes that hands out some paths, whatever follows it
--     expr_flat, type_flat   the laws: an expression or type that was read is such a run
use Rattle.std.specs.Prelude.{None, Ok, Option, Some}
use Prim.Native.Nat.{ℕ, zero, suc, ◌+◌, ◌*◌, ◌≤◌, ◌<◌}
use native.Mathlib.Omega.{arith}
use mathlib.Core.Bool.{Bool, true, false, cond, ◌&&◌}
use mathlib.Core.Path.{◌≡◌, refl, sym, ap, ap₂, subst, ◌∙◌}
use mathlib.Core.List.{List, [], ◌∷◌, ◌++◌, append_assoc, append-nil, map, map-append}
use lib.Dec.{T, leb, leb→le}
use lib.ListN.{length, length-append, length-map, get_or}
use Rattle.meaning.specs.Kinds.{Form, Row, row, lookup, kinds, form_of}
use Rattle.meaning.specs.Limits.{depth_limit}
use Rattle.meaning.specs.Reader.{names_from}
use Rattle.meaning.specs.ReadExpr.{read_expr}
use Rattle.meaning.specs.ReadType.{read_ty}
use Rattle.meaning.specs.References.{collect_field_references_recursive, collect_field_references_in_type_kind, references_in_members}
use Rattle.meaning.specs.Tree.{primitive}
use Rattle.meaning.proofs.Deeper.{type_deeper}
use Rattle.bundle.specs.View.{step_of}
use Rattle.bundle.specs.Definitions.{type_at}
use Rattle.bundle.specs.Expressions.{expr_at}
use Rattle.bundle.proofs.Heads.{ended_ok}
use Rattle.scan.specs.Scan.{record_length, is_size_union, form_at}
use Rattle.scan.proofs.Flat.{type_forward}
use Rattle.scan.proofs.Runs as runs
use Rattle.scan.proofs.ScanLaws.{some_length}
use Rattle.sizes.specs.Scan.{also, next_at, names_in, path_at, references_from, paths_from, Fits}
use Rattle.sizes.proofs.ScanLaws.{step, nothing_left, plain_end, union_next, names_end}

-- how many names there are
pub length_names : (s : List ℕ) (n at : ℕ) → length (names_from s at n) ≡ n
unfolding names_from
length_names s zero at = refl
length_names s (suc n) at = ap suc (length_names s n (at + 2))

-- a field reference has a name
abbrev Named : Option ℕ → Type 0
Named None = Unit {0}
Named (Some n) = 0 < n

-- each of the rows that could have the kind k says so
abbrev EachNamed : List Row → ℕ → Type 0
EachNamed [] k = Unit {0}
EachNamed (row lo hi form ∷ rows) k = (lo ≤ k → Named (names_in (form k))) × EachNamed rows k

lookup_named : (rows : List Row) (k : ℕ) → EachNamed rows k → Named (names_in (lookup rows k))
unfolding lookup names_in
lookup_named [] k a = tt
lookup_named (row lo hi form ∷ rows) k a = go (leb lo k) (leb k hi) refl (lookup_named rows k a.1)
  where
    go : (x y : Bool) → leb lo k ≡ x → Named (names_in (lookup rows k)) → Named (names_in (cond (x && y) (form k) (lookup rows k)))
    go true true p later = a.0 (leb→le lo k (subst T (sym p) tt))
    go true false p later = later
    go false y p later = later

some_names : (k n : ℕ) → names_in (form_of k) ≡ Some n → 0 < n
unfolding names_in
some_names k n p = subst Named p (lookup_named kinds k (λ l. tt, (λ l. omega arith, (λ l. tt, (λ l. tt, (λ l. tt, (λ l. tt, (λ l. tt, (λ l. tt, (λ l. tt, (λ l. tt, (λ l. tt, (λ l. tt, (λ l. tt, (λ l. tt, (λ l. tt, (λ l. tt, (λ l. tt, (λ l. tt, tt)))))))))))))))))))

module _ (s : List ℕ) where
  -- the run from `at` to m has field references of these paths, whatever follows it
  pub record Flat (at m : ℕ) (paths : List (List ℕ)) : Type 0 where
    pub forward : at ≤ m
    pub bound : m ≤ length s
    pub places : List ℕ
    pub scan : (end : ℕ) → m ≤ end → references_from s at end ≡ places ++ references_from s m end
    pub are : map (path_at s) places ≡ paths
    pub fits : Fits s places
    pub wide : at + 3 * length paths ≤ m

  -- one run after another, and no run
  fits_append : (ps qs : List ℕ) → Fits s ps → Fits s qs → Fits s (ps ++ qs)
  fits_append [] qs f g = g
  fits_append (p ∷ ps) qs f g = (f.0, fits_append ps qs f.1 g)

  both : {at i m : ℕ} {ps qs : List (List ℕ)} → Flat at i ps → Flat i m qs → Flat at m (ps ++ qs)
  both {at} {i} {m} {ps} {qs} f g = record {
    forward = omega (arith, f.forward, g.forward);
    bound = g.bound;
    places = f.places ++ g.places;
    scan = λ end h.
        f.scan end (omega (arith, g.forward))
        ∙ ap (f.places ++◌) (g.scan end h)
        ∙ sym (append_assoc f.places g.places (references_from s m end));
    are = map-append (path_at s) f.places g.places ∙ ap₂ ◌++◌ f.are g.are;
    fits = fits_append f.places g.places f.fits g.fits;
    wide = omega (arith, f.wide, g.wide, length-append ps qs);
  }

  empty : {at : ℕ} → at ≤ length s → Flat at at []
  empty h = record { forward = omega arith; bound = h; places = []; scan = λ end l. refl; are = refl; fits = tt; wide = omega arith }

  -- the path of a field reference of n names
  pub path_is : (at n : ℕ) → names_in (form_at s at) ≡ Some n → (path_at s at ≡ names_from s (at + 1) n) × (length (path_at s at) ≡ n)
  unfolding path_at
  path_is at n p = rw p (refl, length_names s n (at + 1))

  -- the paths of one record, by its count of names
  abbrev path_of : ℕ → Option ℕ → List (List ℕ)
  path_of at None = []
  path_of at (Some n) = names_from s (at + 1) n ∷ []

  -- one record, which ends at m
  module _ (at m : ℕ) (q : next_at (form_at s at) s at ≡ m) (l : at < m) (b : m ≤ length s) where
    behind : (t : Option ℕ) → names_in (form_at s at) ≡ t → (end : ℕ) → m ≤ end → references_from s at end ≡ also t at (references_from s m end)
    behind t k end h = step s at end (omega arith) (omega (arith, q)) ∙ ap₂ (λ t n. also t at (references_from s n end)) k q

    one : (t : Option ℕ) → names_in (form_at s at) ≡ t → Flat at m (path_of at t)
    one None k = record { forward = omega arith; bound = b; places = []; scan = behind None k; are = refl; fits = tt; wide = omega arith }
    one (Some n) k =
        let i = path_is at n k in
        let e = names_end s (form_at s at) at n k in
        record {
          forward = omega arith;
          bound = b;
          places = at ∷ [];
          scan = behind (Some n) k;
          are = ap (◌∷ []) i.0;
          fits = (omega (arith, i.1, e, q), tt);
          wide = omega (arith, some_names (get_or s at 0) n k, e, q);
        }

  -- the same of a record that is not passed over
  single : (at m : ℕ) (f : Form) → form_at s at ≡ f → is_size_union f ≡ false → m ≡ at + record_length f → m ≤ length s → Flat at m (path_of at (names_in f))
  single at m f p u e b =
      let q : next_at (form_at s at) s at ≡ m = rw p (plain_end s at f u ∙ sym e) in
      one at m q (omega (arith, some_length f)) b (names_in f) (ap names_in p)

  -- a scan that hands out the paths of field references
  paths : runs.Scan s depth_limit (List ℕ)
  unfolding names_in
  paths = record {
    Flat = Flat;
    forward = λ at m ps f. f.forward;
    bound = λ at m ps f. f.bound;
    both = λ at i m ps qs f g. both f g;
    empty = λ at h. empty h;
    one = λ at f. path_of at (names_in f);
    single = single;
    of_expr = collect_field_references_recursive;
    of_type = collect_field_references_in_type_kind;
    of_members = references_in_members;
    literal_is = λ at w k v. refl;
    field_ref_is = λ at n. refl;
    sizeof_is = λ at n. refl;
    alignof_is = λ at n. refl;
    binary_is = λ at k l r. refl;
    unary_is = λ at k e. refl;
    primitive_is = λ at k. refl;
    lead_is = λ at. refl;
    struct_is = λ at a ms. refl;
    union_is = λ at a ms. refl;
    enum_is = λ at a tag ms. refl;
    array_is = λ at a size t. refl;
    none_is = refl;
    more_is = λ at w n v t ms. refl;
    size_union_is = λ d at i m a ms l p e q g.
        let x = type_deeper d depth_limit l s at _ m (ended_ok (read_ty d s at) m (primitive 0) e) in
        let u : next_at (form_at s at) s at ≡ m = rw p (union_next s at m (rw x)) in
        one at m u (type_forward s d at m e) g.bound None (ap names_in p);
  }

  -- what was read is such a run
  pub expr_flat : (d at m : ℕ) → Ok m ≡ step_of (read_expr d s at) → Flat at m (collect_field_references_recursive (expr_at d s at))
  unfolding paths
  expr_flat d at m e = runs.expr_flat paths d at m e

  pub type_flat : (d : ℕ) → d ≤ depth_limit → (at m : ℕ) → Ok m ≡ step_of (read_ty d s at) → Flat at m (collect_field_references_in_type_kind (type_at d s at))
  unfolding paths
  type_flat d l at m e = runs.type_flat paths d l at m e

  -- a whole expression or type: its field references in order, each within the bytes
  module _ {at m : ℕ} {ps : List (List ℕ)} (f : Flat at m ps) where
    all_places : references_from s at m ≡ f.places
    all_places = f.scan m (omega arith) ∙ ap (f.places ++◌) (nothing_left s m m (omega arith)) ∙ append-nil f.places

    pub whole : paths_from s at m ≡ ps
    whole = ap (map (path_at s)) all_places ∙ f.are

    pub whole_fits : Fits s (references_from s at m)
    whole_fits = rw all_places f.fits

    -- each takes three bytes at least
    pub whole_wide : at + 3 * length (references_from s at m) ≤ m
    whole_wide = omega (arith, f.wide, ap length whole, length-map (references_from s at m) (path_at s))
