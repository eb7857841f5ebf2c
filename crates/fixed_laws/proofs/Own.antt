-- The number for which a part itself is refused, by the extents of its parts. What a reader must believe of it is in specs/Statements.antt.
use Prim.Native.Nat.{ℕ, ◌*◌, ◌≤◌, ◌<◌}
use mathlib.Core.Option.{some}
use mathlib.Core.Path.{◌≡◌}
use Rattle.meaning.specs.Tree.{Expr, Attributes, Ty, struct, union, array, Member, Members, more, Bundle}
use Rattle.fixed_meaning.specs.Extent.{Extent, sized, unsized, largest, round_up, offset_of, with_field, with_member, alignment_of}
use Rattle.fixed_meaning.specs.Fixed.{count_of, measure, measure_member, measure_all}
use Rattle.fixed_laws.specs.Statements.{Reached, BadlyAligned, Varies}

-- refused with k or a smaller number
abbrev pub AtMost : ℕ → Extent → Type 0
AtMost k (sized size a) = ⊥
AtMost k (unsized j) = j ≤ k

-- the offset of some field is over the largest, where the fields before it end as `so` says
pub data OffsetOver (packed : ℕ) (known : ℕ → Extent) : Members → Extent → Type 0 where
  here : {m : Member} {ms : Members} {end most n a : ℕ} → measure_member m known ≡ sized n a → largest < offset_of packed end a → OffsetOver packed known (more m ms) (sized end most)
  later : {m : Member} {ms : Members} {so : Extent} → OffsetOver packed known ms (with_field packed so (measure_member m known)) → OffsetOver packed known (more m ms) so

-- a size or offset of the part is over the largest
pub data SizeOver (known : ℕ → Extent) : Ty → Type 0 where
  an_offset : {a : Attributes} {ms : Members} → OffsetOver a.packed known ms (sized 0 1) → SizeOver known (struct a ms)
  a_struct : {a : Attributes} {ms : Members} {end most : ℕ} → measure_all (with_field a.packed) ms (sized 0 1) known ≡ sized end most → largest < round_up end (alignment_of a most) → SizeOver known (struct a ms)
  a_union : {a : Attributes} {ms : Members} {end most : ℕ} → measure_all with_member ms (sized 0 1) known ≡ sized end most → largest < round_up end (alignment_of a most) → SizeOver known (union a ms)
  an_array : {a : Attributes} {jagged : ℕ} {size : Expr} {t : Ty} {c n al : ℕ} → count_of size ≡ some c → measure t known ≡ sized n al → largest < c * n → SizeOver known (array a jagged size t)

-- the number for which a part itself is refused
pub data Own (b : Bundle) (known : ℕ → Extent) (u : Ty) : ℕ → Type 0 where
  ten : BadlyAligned u → Own b known u 10
  eleven : Varies b u → Own b known u 11
  twelve : SizeOver known u → Own b known u 12

-- some part that is reached from t is itself refused with k
pub record Found (b : Bundle) (known : ℕ → Extent) (t : Ty) (k : ℕ) : Type 0 where
  pub part : Ty
  pub reached : Reached b t part
  pub own : Own b known part k
