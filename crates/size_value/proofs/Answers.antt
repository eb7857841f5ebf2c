-- The answers of the call, each in the form in which the code returns it.
use Rattle.std.specs.Prelude.{Err}
use Rattle.refusal.specs.declared.Refusal.{Refusal}
use Rattle.refusal.specs.declared.Refusal.TheVariants.{Varies}
use Rattle.refusal.specs.Numbers.{number}
use Prim.Native.Nat.{ℕ, ◌+◌, ◌-◌, ◌≤◌, ◌<◌}
use native.Mathlib.Omega.{arith}
use mathlib.Core.Bool.{Bool, true, false, cond}
use mathlib.Core.List.{List, []}
use mathlib.Core.Option.{some}
use mathlib.Core.Path.{◌≡◌, refl, sym, ap, subst, ◌∙◌}
use lib.ListN.{length, get_or}
use Rattle.meaning.specs.Calls.{Outcome, result, refusal, due_of, on_bundle}
use Rattle.meaning.specs.Circle.{circles}
use Rattle.meaning.specs.Kinds.{Form, TypeForm, OfType, Primitive, TypeRef, Struct, Union, Enum, Array, SizeUnion}
use Rattle.meaning.specs.Lookup.{type_at}
use Rattle.meaning.specs.Reader.{Read, ok, refused}
use Rattle.meaning.specs.ReadBundle.{read_bundle}
use Rattle.meaning.specs.ReadExpr.{read_expr}
use Rattle.meaning.specs.ReadType.{read_ty}
use Rattle.meaning.specs.Tree.{Bundle}
use Rattle.bundle.specs.declared.Layout.{Layout}
use Rattle.bundle.specs.View.{Reads}
use Rattle.bundle.specs.Definitions.{bundle_of, zero_group, Table}
use Rattle.bundle.specs.Definitions as bundles
use Rattle.bundle.specs.Expressions.{expr_at}
use Rattle.bundle.specs.Opened.{LayoutOf}
use Rattle.bundle.proofs.ExprLaws.{Opened}
use Rattle.bundle.proofs.LookupLaws.{placed_type}
use Rattle.bundle.proofs.Parts.{enum_at, array_at}
use Rattle.bundle.proofs.Trees.{ended_reads}
use Rattle.bundle.proofs.TypeTrees.{type_form, primitive_tree, type_ref_tree, struct_tree, union_tree, size_union_tree}
use Rattle.fixed_meaning.specs.Value.{Value, unvalued, value_of}
use Rattle.fixed_meaning.specs.Valuing.{array_value, value_due, valuing}
use Rattle.fixed_meaning.proofs.Within.{no_definition}
use Rattle.values.specs.Meant.{value_meant}

-- a type that was read
module _ {d at : ℕ} {s : List ℕ} {f : Form} (o : Opened d at s f) (r : Reads (read_ty d s at)) where
  pub not_array : (f ≡ OfType Array → ⊥) → value_meant (Err Varies) ≡ array_value (some (bundles.type_at d s at))
  unfolding value_meant array_value
  not_array q = let t = type_form o r in go t.0 t.1
    where
      go : (t : TypeForm) → f ≡ OfType t → value_meant (Err Varies) ≡ array_value (some (bundles.type_at d s at))
      go Primitive p = rw (primitive_tree o r p)
      go TypeRef p = rw (type_ref_tree o r p)
      go Struct p = rw (struct_tree o r zero_group p)
      go Union p = rw (union_tree o r zero_group p)
      go Enum p = rw (enum_at o r p).parts.tree
      go Array p = absurd (q p)
      go SizeUnion p = rw (size_union_tree o r zero_group p)

  module _ (p : f ≡ OfType Array) where
    pub size_there : Reads (read_expr (d - 1) s (at + 11))
    size_there = let a = array_at o r p in subst (λ i. Reads (read_expr (d - 1) s i)) a.parts.start (ended_reads (read_expr (d - 1) s a.i) a.j a.size)

    pub size_start : at + 11 ≤ length s
    size_start = let a = array_at o r p in omega (arith, a.parts.start, a.parts.bound)

    pub size_is : value_of (expr_at (d - 1) s (at + 11)) ≡ array_value (some (bundles.type_at d s at))
    unfolding array_value
    size_is = let a = array_at o r p in ap (λ i. value_of (expr_at (d - 1) s i)) (sym a.parts.start) ∙ sym (rw a.parts.tree)

-- definition i of an opened bundle
module _ {s : List ℕ} {n : ℕ} {places : List ℕ} (tb : Table s n places) (i : ℕ) where
  pub opened_none : n ≤ i → value_meant (Err Varies) ≡ array_value (type_at (bundle_of s) i)
  unfolding value_meant array_value
  opened_none h = sym (ap array_value (no_definition (bundle_of s) i (omega (arith, tb.count))))

  pub opened_type : i < n → array_value (some (bundles.type_at 24 s (get_or places i 0))) ≡ array_value (type_at (bundle_of s) i)
  opened_type h = sym (ap array_value (placed_type tb i h))

-- the whole call
pub opened_call : {s : List ℕ} (i : ℕ) {l : Layout} {places : List ℕ} {v : Value} → LayoutOf s l places × (circles (bundle_of s) ≡ false) → v ≡ array_value (type_at (bundle_of s) i) → v ≡ valuing i s
unfolding valuing value_due
opened_call i o w = w ∙ sym (rw (o.0.read, o.1))

pub refused_call : (i : ℕ) (s : List ℕ) (r : Refusal) → ((f : Bundle → Outcome) → on_bundle f s ≡ refusal (number r)) → value_meant (Err r) ≡ valuing i s
unfolding valuing value_due value_meant on_bundle due_of
refused_call i s r e = go (read_bundle s) (e (λ b. result []))
  where
    circled : (b : Bundle) (t : Bool) → cond t (refusal 8) (result []) ≡ refusal (number r) → unvalued (number r) ≡ cond t (unvalued 8) (array_value (type_at b i))
    circled b true q = let z : 8 ≡ number r = cc in rw z refl
    circled b false q = let z : ◌≡◌ {A = ℕ} 0 1 = cc in absurd (omega arith)

    go : (x : Read Bundle) → due_of (λ b. result []) x ≡ refusal (number r) → unvalued (number r) ≡ value_due (λ b. array_value (type_at b i)) x
    go (ok b n) q = circled b (circles b) q
    go (refused j) q = let z : j ≡ number r = cc in rw z refl
