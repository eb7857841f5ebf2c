-- The records of an expression or type lie one after another, and say what its tree says.
--     Flat                                a run of records from one position to another
--     expr_flat, type_flat, members_flat  the laws: an expression, type or list of members that was read is such a run
use Rattle.std.specs.Prelude.{Ok}
use Prim.Native.Nat.{ℕ, ◌+◌, ◌≤◌, ◌<◌}
use native.Mathlib.Omega.{arith}
use mathlib.Core.Path.{◌≡◌, refl, sym}
use mathlib.Core.List.{List, [], ◌∷◌, ◌++◌}
use lib.ListN.{length}
use Rattle.meaning.specs.Kinds.{Form, OfType, SizeUnion}
use Rattle.meaning.specs.ReadExpr.{read_expr}
use Rattle.meaning.specs.ReadType.{read_members, read_ty}
use Rattle.meaning.specs.Tree.{Ty, primitive, type_ref, struct, union, enum, array, size_union}
use Rattle.bundle.specs.View.{step_of}
use Rattle.bundle.specs.Definitions.{type_at, members_at}
use Rattle.bundle.specs.Expressions.{expr_at}
use Rattle.scan.specs.Parts.{Part, expr_parts, type_parts, members_parts}
use Rattle.scan.specs.Scan.{record_length, part_of, form_at, record_end, Run}
use Rattle.scan.proofs.Runs as runs
use Rattle.scan.proofs.ScanLaws.{some_length, run_forward, run_append}

module _ (s : List ℕ) where
  -- the records from `at` to m lie within the bytes and say this
  pub record Flat (at m : ℕ) (ps : List Part) : Type 0 where
    pub bound : m ≤ length s
    pub run : Run s m at ps

  -- one run after another, and where a run goes
  both : {at i m : ℕ} {ps qs : List Part} → Flat at i ps → Flat i m qs → Flat at m (ps ++ qs)
  both {at} {i} {m} {ps} {qs} f g = record { bound = g.bound; run = run_append s m i at ps qs f.run g.run }

  forward : {at m : ℕ} {ps : List Part} → Flat at m ps → at ≤ m
  forward {at} {m} {ps} f = run_forward s m at ps f.run

  -- one record
  single : (at m : ℕ) (f : Form) → form_at s at ≡ f → m ≡ at + record_length f → m ≤ length s → Flat at m (part_of s at f ∷ [])
  single at m f p e b =
      let q : record_end s at ≡ m = rw p (sym e) in
      record { bound = b; run = (rw p, omega (arith, q), q) }

  -- A scan that hands out what each record says. Its equations, as those of `paths` in crate sizes, hold by computing what this scan hands
  -- out: a lemma for both scans would not know what that is, and would take the equations as premises.
  said : (limit : ℕ) → runs.Scan s limit Part
  unfolding part_of
  said limit = record {
    Flat = Flat;
    forward = λ at m ps f. forward f;
    bound = λ at m ps f. f.bound;
    both = λ at i m ps qs f g. both f g;
    empty = λ at h. record { bound = h; run = refl };
    one = λ at f. part_of s at f ∷ [];
    single = λ at m f p u e b. single at m f p e b;
    of_expr = expr_parts;
    of_type = type_parts;
    of_members = members_parts;
    literal_is = λ at w k v. refl;
    field_ref_is = λ at n. refl;
    sizeof_is = λ at n. refl;
    alignof_is = λ at n. refl;
    binary_is = λ at k l r. refl;
    unary_is = λ at k e. refl;
    primitive_is = λ at k. refl;
    lead_is = λ at. refl;
    struct_is = λ at a ms. refl;
    union_is = λ at a ms. refl;
    enum_is = λ at a tag ms. refl;
    array_is = λ at a size t. refl;
    none_is = refl;
    more_is = λ at w n v t ms. refl;
    size_union_is = λ d at i m a ms l p e q g. both (single at i (OfType SizeUnion) p q (omega (arith, forward g, g.bound))) g;
  }

  -- what was read is such a run
  pub expr_flat : (d at m : ℕ) → Ok m ≡ step_of (read_expr d s at) → Flat at m (expr_parts (expr_at d s at))
  unfolding said
  expr_flat d at m e = runs.expr_flat (said d) d at m e

  pub type_flat : (d at m : ℕ) → Ok m ≡ step_of (read_ty d s at) → Flat at m (type_parts (type_at d s at))
  unfolding said
  type_flat d at m e = runs.type_flat (said d) d (omega arith) at m e

  pub members_flat : (d k n at m : ℕ) → at ≤ length s → Ok m ≡ step_of (read_members (read_ty d) k n s at) → Flat at m (members_parts (members_at d k n s at))
  unfolding said
  members_flat d k n at m = runs.members_flat (said d) d (type_flat d) k n at m

  -- a type has a record
  pub type_forward : (d at m : ℕ) → Ok m ≡ step_of (read_ty d s at) → at < m
  type_forward d at m e = go (type_at d s at) (type_flat d at m e).run
    where
      go : (t : Ty) → Run s m at (type_parts t) → at < m
      go (primitive k) a = omega (arith, a.1, some_length (form_at s at))
      go (type_ref n) a = omega (arith, a.1, some_length (form_at s at))
      go (struct b ms) a = omega (arith, a.1, some_length (form_at s at))
      go (union b ms) a = omega (arith, a.1, some_length (form_at s at))
      go (enum b tag ms) a = omega (arith, a.1, some_length (form_at s at))
      go (array b jagged size t) a = omega (arith, a.1, some_length (form_at s at))
      go (size_union b ms) a = omega (arith, a.1, some_length (form_at s at))
