use mathlib.Core.Logic.{inl, inr}
use Rattle.extents.specs.Meant.{extent_meant, members_meant}
use Rattle.fixed.specs.Walk.{join_of}
use Rattle.fixed.proofs.join.Goals as goal

pub returns-in-Field : goal.returns-in-Field
unfolding join_of members_meant extent_meant
returns-in-Field c = rw c.in-Field.is c.with_field.ensures

pub returns-in-UnionVariant : goal.returns-in-UnionVariant
unfolding join_of members_meant extent_meant
returns-in-UnionVariant c = elim c.in-UnionVariant.is [ inl e ↦ rw e c.with_member.ensures | inr m ↦ elim m [ inl e ↦ rw e c.with_member.ensures | inr e ↦ rw e c.with_member.ensures ] ]
