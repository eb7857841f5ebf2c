-- What is noted of a bundle is so in one way at most, so that it can be a field of a struct.
use Rattle.std.specs.Prelude.{ℕ, ◌+◌, List, [], ◌∷◌}
use Rattle.std.proofs.Props.{props}
use mathlib.Core.HLevel.{×_prop}
use Rattle.sizes.specs.Scan.{Fits}
use Rattle.field_index.specs.Facts.{DefinitionsNoted-prop}
use Rattle.notes.specs.Notes.{Lists, Noted}

Lists-prop : (s places : List ℕ) (end a : ℕ) (ps : List ℕ) → IsProp (Lists s places end a ps)
Lists-prop s places end a [] = Prim.hlevel (props)
Lists-prop s places end a (p ∷ ps) = ×_prop (Prim.hlevel (props)) (Lists-prop s places end (a + 3) ps)

Fits-prop : (s ps : List ℕ) → IsProp (Fits s ps)
Fits-prop s [] = Prim.hlevel (props)
Fits-prop s (p ∷ ps) = ×_prop (Prim.hlevel (props)) (Fits-prop s ps)

pub Noted-prop : (s places : List ℕ) (n : ℕ) → IsProp (Noted s places n)
Noted-prop s places n = Prim.hlevel (DefinitionsNoted-prop, Lists-prop, Fits-prop, props)
