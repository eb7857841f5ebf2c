-- The field references of an expression or type that was read, as a scan over its records meets them.
use Rattle.std.specs.Prelude.{Err, Ok, is_some}
use Rattle.refusal.specs.declared.Refusal.{Refusal}
use Prim.Native.Nat.{ℕ, ◌+◌, ◌*◌, ◌≤◌}
use native.Mathlib.Omega.{arith}
use mathlib.Core.Bool.{Bool, true, false, not, ◌&&◌, false≢true}
use mathlib.Core.Path.{◌≡◌, refl, sym, ap, ap₂, ◌∙◌}
use mathlib.Core.List.{List, [], ◌∷◌, ◌++◌, map}
use lib.ListN.{length}
use Rattle.meaning.specs.Limits.{depth_limit}
use Rattle.meaning.specs.Tree.{Expr, literal, field_ref, sizeof, alignof, binary, unary}
use Rattle.meaning.specs.ReadExpr.{read_expr}
use Rattle.meaning.specs.ReadType.{read_ty}
use Rattle.meaning.specs.References.{is_constant, collect_field_references_recursive, collect_field_references_in_type_kind}
use Rattle.bundle.specs.View.{step_of, Reads}
use Rattle.bundle.specs.Definitions.{type_at}
use Rattle.bundle.specs.Expressions.{expr_at}
use Rattle.bundle.proofs.Trees.{refused_no}
use Rattle.scan.proofs.Flat.{type_forward}
use Rattle.sizes.specs.Scan.{path_at, references_from, paths_from, found_of, Fits}
use Rattle.sizes.proofs.Flat.{expr_flat, type_flat, whole, whole_fits, whole_wide}

-- nothing that was read is refused
pub expr_no : (d at : ℕ) (k : Refusal) (s : List ℕ) → Reads (read_expr d s at) → Err k ≡ step_of (read_expr d s at) → ⊥
expr_no d at k s r e = refused_no (read_expr d s at) k r (sym e)

-- an expression is constant exactly where it has no reference
abbrev is_empty : {A : Type 0} → List A → Bool
is_empty [] = true
is_empty (x ∷ xs) = false

empty_append : {A : Type 0} (xs ys : List A) → is_empty (xs ++ ys) ≡ (is_empty xs && is_empty ys)
empty_append [] ys = refl
empty_append (x ∷ xs) ys = refl

constant_empty : (e : Expr) → is_constant e ≡ is_empty (collect_field_references_recursive e)
constant_empty (literal k v) = refl
constant_empty (field_ref path) = refl
constant_empty (sizeof n) = refl
constant_empty (alignof n) = refl
constant_empty (binary k l r) =
    ap₂ ◌&&◌ (constant_empty l) (constant_empty r) ∙ sym (empty_append (collect_field_references_recursive l) (collect_field_references_recursive r))
constant_empty (unary k e) = constant_empty e

-- an expression that ended at m
module _ (d at m : ℕ) (s : List ℕ) (e : Ok m ≡ step_of (read_expr d s at)) where
  pub expr_bound : m ≤ length s
  expr_bound = (expr_flat s d at m e).bound

  pub expr_references : paths_from s at m ≡ collect_field_references_recursive (expr_at d s at)
  expr_references = whole s (expr_flat s d at m e)

  pub expr_fits : Fits s (references_from s at m)
  expr_fits = whole_fits s (expr_flat s d at m e)

  by_first : is_constant (expr_at d s at) ≡ is_empty (references_from s at m)
  by_first = constant_empty (expr_at d s at) ∙ ap is_empty (sym expr_references) ∙ mapped (references_from s at m)
    where
      mapped : (ps : List ℕ) → is_empty (map (path_at s) ps) ≡ is_empty ps
      mapped [] = refl
      mapped (p ∷ ps) = refl

  pub constant_none : (b : Bool) → is_some (found_of (references_from s at m)) ≡ not b → b ≡ is_constant (expr_at d s at)
  constant_none b q = go b (references_from s at m) q ∙ sym by_first
    where
      go : (b : Bool) (ps : List ℕ) → is_some (found_of ps) ≡ not b → b ≡ is_empty ps
      go true [] q = refl
      go true (p ∷ ps) q = absurd (false≢true (sym q))
      go false [] q = absurd (false≢true q)
      go false (p ∷ ps) q = refl

-- a type that ended at m
module _ (d at m : ℕ) (s : List ℕ) (l : d ≤ depth_limit) (e : Ok m ≡ step_of (read_ty d s at)) where
  pub type_bound : m ≤ length s
  type_bound = (type_flat s d l at m e).bound

  pub type_references : paths_from s at m ≡ collect_field_references_in_type_kind (type_at d s at)
  type_references = whole s (type_flat s d l at m e)

  pub type_fits : Fits s (references_from s at m)
  type_fits = whole_fits s (type_flat s d l at m e)

  -- behind its first byte there are two bytes for each of them
  pub type_wide : at + 1 + 2 * length (references_from s at m) ≤ m
  type_wide = omega (arith, type_forward s d at m e, whole_wide s (type_flat s d l at m e))
