-- The fields of each kind, as the code finds them.
use Prim.Native.Nat.{ℕ, zero, suc, ◌<◌, ◌≤◌}
use native.Mathlib.Omega.{arith}
use mathlib.Core.List.{[], ◌∷◌}
use lib.ListN.{take, replicate}
use Rattle.meaning.specs.Writing.{named}
use mathlib.Core.Path.{◌≡◌, refl}
use mathlib.Core.Bool.{Bool, true, cond}
use lib.Dec.{T, eqb, eqb→eq}
use borrow.Author.Tests.{ne_eqb}
use Rattle.meaning.specs.Kinds as kinds
use Rattle.meaning.specs.Kinds.{lookup, form_of}
use Rattle.meaning.proofs.ExprSpans.{all_at}
use Rattle.meaning.proofs.KindTable.{side}
use mathlib.Core.Logic.{⊎_elim}
use Rattle.bundle.specs.declared.RecordForm.{RecordForm}
use Rattle.bundle.specs.declared.RecordForm.TheVariants.{Header, Definition, Edge}
use Rattle.bundle.specs.declared.Form.{Form}
use Rattle.bundle.specs.declared.Form.TheVariants.{OfRecord}
use Rattle.bundle.specs.View.{record_kind, form_meant}
use Rattle.writer.specs.Shapes.{part_of, parts_of, is_count, sound}

-- the first names of four
pub first_names : (n : ℕ) → n ≤ 4 → take n (part_of named ∷ part_of named ∷ part_of named ∷ part_of named ∷ []) ≡ parts_of (replicate n named)
first_names zero h = refl
first_names (suc zero) h = refl
first_names (suc (suc zero)) h = refl
first_names (suc (suc (suc zero))) h = refl
first_names (suc (suc (suc (suc zero)))) h = refl
first_names (suc (suc (suc (suc (suc n))))) h = absurd (omega arith)

-- a path has at most four names
pub few_names : (n : ℕ) → T (is_count n) → n ≤ 4
few_names n t =
    ⊎_elim (λ h. omega arith)
    (λ h. absurd (rw (ne_eqb n 1 (λ p. omega arith), ne_eqb n 2 (λ p. omega arith), ne_eqb n 3 (λ p. omega arith), ne_eqb n 4 (λ p. omega arith)) at t)) (side n 5)

-- the form of a kind byte is sound, and so is what it is found to be
pub kind_sound : (k : ℕ) (f g : Form) → k < 256 → form_meant f ≡ form_of k → f ≡ g → T (sound (form_meant g))
unfolding lookup
kind_sound k f g h e p = rw (← p, e) (all_at (λ k. sound (form_of k)) 256 k tt h)

-- what the kind of a header, definition or edge tells of it
abbrev told : ℕ → kinds.Form → Bool
told k (kinds.OfExpr f) = true
told k (kinds.OfType f) = true
told k (kinds.OfMember w) = true
told k (kinds.OfRecord before names behind) = eqb k (cond (eqb before 4) 0x60 (cond (eqb names 1) 0x61 0x62))
told k kinds.Unknown = true

is_told : (k : ℕ) (f g : Form) → k < 256 → form_meant f ≡ form_of k → f ≡ g → T (told k (form_meant g))
unfolding lookup
is_told k f g h e p = rw (← p, e) (all_at (λ k. told k (form_of k)) 256 k tt h)

-- a kind byte that is found to be a header's, a definition's or an edge's
pub record_kind_lem : (k : ℕ) (f : Form) (g : RecordForm) → k < 256 → form_meant f ≡ form_of k → f ≡ OfRecord g → k ≡ record_kind g
unfolding form_meant
record_kind_lem k f Header h e p = eqb→eq k 0x60 (is_told k f (OfRecord Header) h e p)
record_kind_lem k f Definition h e p = eqb→eq k 0x61 (is_told k f (OfRecord Definition) h e p)
record_kind_lem k f Edge h e p = eqb→eq k 0x62 (is_told k f (OfRecord Edge) h e p)
