-- Whether a type needs the references in it, by its shape.
use Prim.Native.Nat.{ℕ, ◌+◌}
use mathlib.Core.Bool.{Bool, true, false, not, ◌&&◌, false≢true}
use mathlib.Core.List.{List}
use mathlib.Core.Path.{◌≡◌, refl}
use Rattle.meaning.specs.Sizes.{is_enum_with_constant_size_variants}
use Rattle.meaning.specs.References.{is_constant}
use Rattle.meaning.specs.Tree.{Ty, primitive, type_ref, struct, union, enum, array, size_union}
use Rattle.bundle.specs.Definitions.{type_at}
use Rattle.bundle.specs.Expressions.{expr_at}
use Rattle.fields.specs.declared.Shape.{Shape}
use Rattle.fields.specs.declared.Shape.TheVariants as shape
use Rattle.fields.specs.Shapes.{EnumAt, ArrayAt, is_plain, ShapeOf}
use Rattle.notes.specs.Notes.{needs_references}

and_true : (t : Bool) → t ≡ (t && true)
and_true true = refl
and_true false = refl

module _ (s : List ℕ) (at : ℕ) where
  pub needs_enum : EnumAt 24 s at → {r : Bool} → r ≡ is_enum_with_constant_size_variants (type_at 24 s at) → not r ≡ needs_references (type_at 24 s at)
  unfolding needs_references
  needs_enum g {r} e = rw (g.tree, e, g.tree) (and_true _)

  pub needs_array : ArrayAt 24 s at → {r : Bool} → r ≡ is_constant (expr_at 23 s (at + 11)) → not r ≡ needs_references (type_at 24 s at)
  unfolding needs_references
  needs_array g e = rw (g.tree, e)

  plain_needs : (t : Ty) → is_plain t ≡ true → true ≡ needs_references t
  unfolding needs_references
  plain_needs (primitive k) e = refl
  plain_needs (type_ref n) e = absurd (false≢true e)
  plain_needs (struct a ms) e = refl
  plain_needs (union a ms) e = refl
  plain_needs (enum a tag ms) e = absurd (false≢true e)
  plain_needs (array a jagged size element) e = absurd (false≢true e)
  plain_needs (size_union a ms) e = refl

  pub needs_other : (r : Shape) → ShapeOf 24 s at r → (r ≡ shape.Enum → ⊥) → (r ≡ shape.Array → ⊥) → true ≡ needs_references (type_at 24 s at)
  unfolding needs_references
  needs_other (shape.Struct n) g e a = rw g.tree
  needs_other shape.Enum g e a = absurd (e refl)
  needs_other shape.Array g e a = absurd (a refl)
  needs_other (shape.TypeRef n) g e a = rw g
  needs_other shape.Plain g e a = plain_needs (type_at 24 s at) g
