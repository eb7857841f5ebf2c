-- `offsets::fields_at` meets its contract.
use native.Mathlib.Omega.{arith}
use Prim.Native.Nat.{◌+◌}
use mathlib.Core.Bool.{false≢true}
use mathlib.Core.Path.{refl, sym, ◌∙◌}
use Rattle.bundle.specs.View.{type_form_meant}
use Rattle.bundle.proofs.Parts.{type_opened}
use Rattle.offsets.proofs.PlacingLaws.{not_struct, struct_fields}
use Rattle.offsets.proofs.fields_at.Goals as goal

pub returns-then-not-type_is : goal.returns-then-not-type_is
unfolding type_form_meant
returns-then-not-type_is c = not_struct (type_opened _ _ _ _ c.requires refl) c.requires (λ p. false≢true (sym c.if-not-type_is.true ∙ c.type_is.ensures.1 p))

pub returns : goal.returns
unfolding type_form_meant
returns c = rw c.packing_of.ensures (struct_fields (type_opened _ _ _ _ c.requires refl) c.requires _ refl (c.type_is.ensures.0 c.if-not-type_is.false) c.u16_at.ensures (omega (arith, c.type_inv.s (c.args.at + 10))) (omega (arith, c.type_inv.s (c.args.at + 11))))
