-- The answers of an enum that are kept.
use Rattle.std.specs.Prelude.{Option, Some, None}
use Rattle.std.proofs.lemmas.List.{get_or-replicate}
use Prim.Native.Nat.{ℕ, ◌<◌}
use native.Mathlib.Omega.{arith}
use native.Mathlib.Decide.{ℕ_discrete}
use mathlib.Core.Logic.{by_cases}
use mathlib.Core.Path.{◌≡◌, refl, sym, ap, ◌∙◌}
use mathlib.Core.List.{List, map}
use lib.ListN.{length, get_or, set, replicate, length-set, length-map}
use lib.Seq.{get_or-set_same, get_or-set_other}
use Rattle.names.specs.Names.{place}
use Rattle.names.proofs.Place.{get_d_place}
use Rattle.meaning.specs.Lookup.{definition_of}
use Rattle.bundle.specs.Definitions.{bundle_of, Table}
use Rattle.containers.specs.declared.Container.{Container}
use Rattle.containers.specs.Containers.{Defined, container_shown, Known}

-- two names with one first definition are the same
pub same_name : (xs : List ℕ) (x y : ℕ) → place xs x ≡ place xs y → place xs y < length xs → x ≡ y
same_name xs x y e h = sym (get_d_place xs x (omega (arith, e))) ∙ ap (λ i. get_or xs i 0) e ∙ get_d_place xs y h

module _ {s : List ℕ} {n : ℕ} {places : List ℕ} (t : Table s n places) {e : ℕ} {known : List (Option Container)} (k : Known s e known) (i c : ℕ) (d : i ≡ definition_of (bundle_of s) c) (h : i < n) where
  pub known_there : i < 256
  known_there = omega (arith, t.count, t.placed.room)

  pub known_is : {r : Container} → get_or known i None ≡ Some r → r ≡ container_shown (bundle_of s) e c
  known_is {r} p = k.each i known_there r p c (sym d)

  pub known_put : {r : Container} → r ≡ container_shown (bundle_of s) e c → Known s e (set known i (Some r))
  known_put {r} p =
      record {
        size = length-set known i (Some r) ∙ k.size;
        defined = k.defined;
        each = λ j m v l x q.
            by_cases (ℕ_discrete j i)
            (λ (z : j ≡ i).
            let same : x ≡ c = same_name (map (λ d. d.name) (bundle_of s).definitions) x c (q ∙ z ∙ d) (omega (arith, d, t.count, length-map (bundle_of s).definitions (λ d. d.name))) in
            let is : Some r ≡ Some v = sym (get_or-set_same known i (Some r) None (omega (arith, k.size, known_there))) ∙ ap (λ j. get_or (set known i (Some r)) j None) (sym z) ∙ l in
            let v_r : v ≡ r = cc in
            rw same (v_r ∙ p))
            (λ (z : ¬ (j ≡ i)). k.each j m v (sym (get_or-set_other known i j (Some r) None z) ∙ l) x q);
      }

-- nothing is known yet
pub known_start : (s : List ℕ) (e : ℕ) → Defined s e → Known s e (replicate 256 None)
known_start s e d = record { size = refl; defined = d; each = λ i m c l. let z : None ≡ Some c = sym (get_or-replicate 256 i None None m) ∙ l in cc }
