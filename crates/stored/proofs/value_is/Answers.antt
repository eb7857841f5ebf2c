-- `stored::value_is` meets its contract: the bytes are those of the value's bits.
use native.Mathlib.Omega.{arith}
use mathlib.Core.Path.{ap, subst, ◌∙◌}
use mathlib.Core.List.{List}
use Prim.Native.Nat.{ℕ}
use mathlib.Core.Path.{◌≡◌}
use mir.Syntax.{w64}
use mir.Val.{of_z}
use mir.ValLaws.{to_z-of_z}
use Rattle.std.specs.Int.{to_le_bytes}
use Rattle.stored.specs.Stored.{Whether, number_bytes, bits_of}
use Rattle.stored.proofs.Parts.{number_low, bits_lem, told}
use Rattle.stored.proofs.value_is.Goals as goal

pub returns : goal.returns
returns c =
    let n : c.cast_unsigned.result ≡ bits_of c.args.value = c.cast_unsigned.ensures ∙ ap (of_z w64) (to_z-of_z w64 c.args.value c.ranges.value) ∙ bits_lem c.args.value in
    let e : c.as_slice.result.now ≡ number_bytes 8 (bits_of c.args.value) =
    c.as_slice.ensures ∙ c.to_le_bytes.ensures ∙ ap (to_le_bytes w64) n ∙ number_low 8 (bits_of c.args.value) (omega arith) in
    subst (λ (ys : List ℕ). Whether c.eq.result (c.args.due.now ≡ ys)) e (told c.eq.result _ _ c.eq.ensures)
