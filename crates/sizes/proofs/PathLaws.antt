-- The names of a field reference in the bytes, and the references of a run one by one.
use Rattle.std.specs.Prelude.{None, Option, Some}
use Rattle.std.specs.Option.{unwrap_or}
use Prim.Native.Nat.{ℕ, zero, suc, ◌+◌, ◌-◌, ◌*◌, ◌≤◌, ◌<◌}
use native.Mathlib.Omega.{arith}
use mathlib.Core.Logic.{◌⊎◌, inl, inr}
use mathlib.Core.Path.{◌≡◌, refl, sym, ap, ap₂, ◌∙◌}
use mathlib.Core.List.{List, ◌∷◌}
use lib.ListN.{length}
use Rattle.meaning.specs.Kinds.{Form}
use Rattle.meaning.specs.Lookup.{Target, parse_field_reference}
use Rattle.meaning.specs.Reader.{little, names_from}
use Rattle.meaning.proofs.KindTable.{side}
use Rattle.scan.specs.Scan.{form_at}
use Rattle.sizes.specs.Paths.{Fit}
use Rattle.sizes.specs.Scan.{also, next_at, names_in, names_at, path_at, references_from, found_of, Fits}
use Rattle.sizes.proofs.ScanLaws.{step, nothing_left, record_forward, names_end}
use Rattle.sizes.proofs.Flat.{length_names, path_is}

module _ (s : List ℕ) where
  -- how many names the reference at `at` has
  module _ (at : ℕ) (f : Form) (e : f ≡ form_at s at) where
    pub path_counted : unwrap_or (names_in f) 0 ≡ length (path_at s at)
    unfolding path_at
    path_counted = rw e (go (names_in (form_at s at)))
      where
        go : (x : Option ℕ) → unwrap_or x 0 ≡ length (names_at s (at + 1) x)
        go None = refl
        go (Some n) = sym (length_names s n (at + 1))

  -- they stand behind the kind byte
  pub path_names : (at : ℕ) → path_at s at ≡ names_from s (at + 1) (length (path_at s at))
  unfolding path_at names_from
  path_names at = go (names_in (form_at s at))
    where
      go : (x : Option ℕ) → names_at s (at + 1) x ≡ names_from s (at + 1) (length (names_at s (at + 1) x))
      go None = refl
      go (Some n) = ap (names_from s (at + 1)) (sym (length_names s n (at + 1)))

  -- what the reference at `at`, of n names, means
  module _ (at current n : ℕ) (e : n ≡ length (path_at s at)) where
    pub parse_few : n ≤ 1 → record { type = current; field = names_from s (at + 1) n } ≡ parse_field_reference current (path_at s at)
    unfolding names_from
    parse_few h = rw (path_names at, ← e) (go n h)
      where
        go : (k : ℕ) → k ≤ 1 → ◌≡◌ {A = Target} (record { type = current; field = names_from s (at + 1) k }) (parse_field_reference current (names_from s (at + 1) k))
        go zero h = refl
        go (suc zero) h = refl
        go (suc (suc k)) h = absurd (omega arith)

    pub parse_more : (x : ℕ) → x ≡ little s (at + 1) 2 → (n ≤ 1 → ⊥) → record { type = x; field = names_from s (at + 3) (n - 1) } ≡ parse_field_reference current (path_at s at)
    unfolding names_from
    parse_more x y h = rw (y, path_names at, ← e) (go n h)
      where
        go : (k : ℕ) → (k ≤ 1 → ⊥) → ◌≡◌ {A = Target} (record { type = little s (at + 1) 2; field = names_from s (at + 3) (k - 1) }) (parse_field_reference current (names_from s (at + 1) k))
        go zero h = absurd (omega arith)
        go (suc zero) h = absurd (omega arith)
        go (suc (suc k)) h = let p : at + 1 + 2 ≡ at + 3 = omega arith in let q : suc (suc k) - 1 ≡ suc k = omega arith in rw (p, q)

module _ (s : List ℕ) (end : ℕ) where
  -- the first reference from `at` on is at p, and the others come behind its names
  pub record Split (at p : ℕ) : Type 0 where
    pub rest : references_from s at end ≡ p ∷ references_from s (p + 1 + 2 * length (path_at s p)) end
    pub from : at ≤ p
    pub before : p < end

  module _ (p : ℕ) where
    -- one record at `at`, by what is found behind it
    split_step : (at : ℕ) → at < end → Some p ≡ found_of (references_from s at end)
        → (Some p ≡ found_of (references_from s (next_at (form_at s at) s at) end) → Split (next_at (form_at s at) s at) p) → Split at p
    split_step at h e later = go (names_in (form_at s at)) refl (step s at end h (record_forward s at))
      where
        go : (x : Option ℕ) → names_in (form_at s at) ≡ x → references_from s at end ≡ also x at (references_from s (next_at (form_at s at) s at) end) → Split at p
        go None n q =
            let g = later (e ∙ ap found_of q) in
            record { rest = q ∙ g.rest; from = omega (arith, g.from, record_forward s at); before = g.before }
        go (Some k) n q =
            let i : p ≡ at = at_same (e ∙ ap found_of q) in
            let b : next_at (form_at s at) s at ≡ p + 1 + 2 * length (path_at s p) = names_end s (form_at s at) at k n ∙ rw (i, (path_is s at k n).1) in
            record { rest = q ∙ ap₂ (λ x y. x ∷ references_from s y end) (sym i) b; from = omega arith; before = omega arith }
          where
            at_same : {x y : ℕ} → Some x ≡ Some y → x ≡ y
            at_same e = cc

    pub found_split : (at : ℕ) → Some p ≡ found_of (references_from s at end) → Split at p
    found_split at e = go (end - at) at (omega arith) e
      where
        none_left : (i : ℕ) → end ≤ i → Some p ≡ found_of (references_from s i end) → ⊥
        none_left i h e = let q = e ∙ ap found_of (nothing_left s i end h) in let z : ◌≡◌ {A = ℕ} 0 1 = cc in omega arith

        go : (k i : ℕ) → end - i ≤ k → Some p ≡ found_of (references_from s i end) → Split i p
        go zero i l e = absurd (none_left i (omega arith) e)
        go (suc k) i l e = either (side i end) (go k (next_at (form_at s i) s i) (omega (arith, record_forward s i)))
          where
            either : (i < end) ⊎ (end ≤ i) → (Some p ≡ found_of (references_from s (next_at (form_at s i) s i) end) → Split (next_at (form_at s i) s i) p) → Split i p
            either (inl h) later = split_step i h e later
            either (inr h) later = absurd (none_left i h e)

    -- each reference of the run lies within the bytes
    module _ {at : ℕ} (g : Split at p) (h : Fits s (references_from s at end)) where
      both_fit : Fits s (p ∷ references_from s (p + 1 + 2 * length (path_at s p)) end)
      both_fit = rw g.rest at h

      pub split_fit : Fit s p
      split_fit = both_fit.0

      pub split_fits : Fits s (references_from s (p + 1 + 2 * length (path_at s p)) end)
      split_fits = both_fit.1
