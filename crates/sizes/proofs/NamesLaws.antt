-- What one turn of a scan for field references does, by the form of the record that it meets.
use Rattle.std.specs.Prelude.{None, Option, Some, is_some}
use Prim.Native.Nat.{ℕ, ◌-◌, ◌≤◌, ◌<◌}
use native.Mathlib.Omega.{arith}
use mathlib.Core.Bool.{true, false, false≢true}
use mathlib.Core.Path.{◌≡◌, refl, sym, ap, ◌∙◌}
use mathlib.Core.List.{List}
use Rattle.meaning.specs.Kinds as kinds
use Rattle.scan.specs.Scan.{form_at}
use Rattle.sizes.specs.Scan.{also, next_at, names_in, references_from, found_of}
use Rattle.sizes.proofs.ScanLaws.{step, nothing_left, record_forward}

-- a record of form f at `at`
module _ (s : List ℕ) (at end : ℕ) (f : kinds.Form) (e : f ≡ form_at s at) (l : at < end) where
  -- it is a field reference
  pub step_found : is_some (names_in f) ≡ true → found_of (references_from s at end) ≡ Some at
  step_found q = ap found_of (step s at end l (record_forward s at)) ∙ go (names_in (form_at s at)) (rw (← e) q)
    where
      go : (x : Option ℕ) → is_some x ≡ true → found_of (also x at (references_from s (next_at (form_at s at) s at) end)) ≡ Some at
      go None q = absurd (false≢true q)
      go (Some n) q = refl

  -- it is another, which ends at m
  module _ (m : ℕ) (p : m ≡ next_at f s at) where
    pub step_other : is_some (names_in f) ≡ false → references_from s m end ≡ references_from s at end
    step_other q = sym (step s at end l (record_forward s at) ∙ go (names_in (form_at s at)) (rw (← e) q) ∙ rw (p, e))
      where
        go : (x : Option ℕ) → is_some x ≡ false
            → also x at (references_from s (next_at (form_at s at) s at) end) ≡ references_from s (next_at (form_at s at) s at) end
        go None q = refl
        go (Some n) q = absurd (false≢true (sym q))

    pub step_less : end - m < end - at
    step_less =
        let h : at < m = rw (p, e) (record_forward s at) in
        omega arith

-- no record is left
pub step_none : (s : List ℕ) (at end : ℕ) → end ≤ at → found_of (references_from s at end) ≡ None
step_none s at end h = ap found_of (nothing_left s at end h)
