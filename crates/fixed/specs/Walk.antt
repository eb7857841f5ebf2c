-- What the walk over a type answers: the extent by the kept extents of the names in it, and where the type ends.
use Rattle.std.specs.Prelude.{ℕ, ◌+◌, List, ◌≡◌, cond, eqb, leb, get_or, Ok, Result}
use Rattle.refusal.specs.declared.Refusal.{Refusal}
use Rattle.meaning.specs.Reader.{Read, little}
use Rattle.meaning.specs.ReadExpr.{read_expr}
use Rattle.meaning.specs.ReadType.{Group, read_ty, read_member, read_members, read_group, read_enum, read_array}
use Rattle.meaning.specs.Tree.{Attributes, Ty, primitive, Member, member, Members}
use Rattle.bundle.specs.View.{step_of, value_or}
use Rattle.bundle.specs.Definitions.{members_at, zero_group}
use Rattle.fixed_meaning.specs.Extent as meaning
use Rattle.fixed_meaning.specs.Extent.{sized, with_field, with_member, varying, closed}
use Rattle.fixed_meaning.specs.Fixed.{measure, measure_member, measure_all}
use Rattle.extents.specs.declared.extent.Extent.{Extent}
use Rattle.extents.specs.declared.extent.Members as code
use Rattle.extents.specs.declared.Unsized.{Unsized}
use Rattle.extents.specs.Meant.{extent_meant, members_meant, attributes}
use Rattle.fixed.specs.declared.Measured.{Measured}
use Rattle.fixed.specs.Kept.{Extents, known}

-- how members of kind k are joined: fields one after another, others one over another
unfoldable pub join_of : ℕ → ℕ → meaning.Extent → meaning.Extent → meaning.Extent
join_of k packed so e = cond (eqb k 0x50) (with_field packed so e) (with_member so e)

-- packed and aligned, where they were read
abbrev pub attributes_at : List ℕ → ℕ → Attributes
attributes_at s at = attributes (get_or s at 0) (little s (at + 1) 8)

-- the type that has them: a struct or union is fixed, an enum or size-discriminated union varies
unfoldable pub close_of : ℕ → Attributes → meaning.Extent → meaning.Extent
close_of k a so = closed a (cond (leb k 0x51) so (varying so))

-- a member with nothing in it, for where none was read
abbrev pub zero_member : Member
zero_member = member 0 0 (primitive 0)

-- the extent of a type, of a member, of members of kind k, and of the type that has them
unfoldable pub part_of : List ℕ → Extents → Ty → meaning.Extent
part_of s kept t = measure t (known s kept)

unfoldable pub member_of : List ℕ → Extents → Member → meaning.Extent
member_of s kept m = measure_member m (known s kept)

unfoldable pub members_of : List ℕ → Extents → ℕ → ℕ → Members → meaning.Extent → meaning.Extent
members_of s kept k packed ms so = measure_all (join_of k packed) ms so (known s kept)

unfoldable pub group_of : List ℕ → Extents → ℕ → Group → meaning.Extent
group_of s kept k g = close_of k g.attributes (members_of s kept k g.attributes.packed g.members (sized 0 1))

-- r stands for the extent e of what was read, and where that ended
pub record IsRead {T : Type 0} (meant : Result T Unsized → meaning.Extent) (e : meaning.Extent) (end : Result ℕ Refusal) (r : Measured T) : Type 0 where
  pub is : meant r.extent ≡ e
  pub ended : Ok r.end ≡ end

-- the answer r for a type that was read as x

abbrev pub TypeMeasured : List ℕ → Extents → Read Ty → Measured Extent → Type 0
TypeMeasured s kept x r = IsRead extent_meant (part_of s kept (value_or (primitive 0) x)) (step_of x) r

-- for an enum's body, an array's, a member, n members of kind k, and the body of a group of them, that were read at a position

abbrev pub EnumMeasured : List ℕ → Extents → ℕ → ℕ → Measured Extent → Type 0
EnumMeasured s kept d at r = TypeMeasured s kept (read_enum (read_expr d) (read_ty d) s at) r

abbrev pub ArrayMeasured : List ℕ → Extents → ℕ → ℕ → Measured Extent → Type 0
ArrayMeasured s kept d at r = TypeMeasured s kept (read_array (read_expr d) (read_ty d) s at) r

abbrev pub MemberMeasured : List ℕ → Extents → ℕ → ℕ → ℕ → Measured Extent → Type 0
MemberMeasured s kept d k at r =
    IsRead extent_meant (member_of s kept (value_or zero_member (read_member (read_ty d) k s at))) (step_of (read_member (read_ty d) k s at)) r

abbrev pub MembersMeasured : List ℕ → Extents → ℕ → ℕ → ℕ → ℕ → ℕ → Measured code.Members → Type 0
MembersMeasured s kept d k packed n at r =
    IsRead members_meant (members_of s kept k packed (members_at d k n s at) (sized 0 1)) (step_of (read_members (read_ty d) k n s at)) r

abbrev pub GroupMeasured : List ℕ → Extents → ℕ → ℕ → ℕ → Measured Extent → Type 0
GroupMeasured s kept d k at r =
    IsRead extent_meant (group_of s kept k (value_or zero_group (read_group (read_ty d) k s at))) (step_of (read_group (read_ty d) k s at)) r
