-- Followed names that a list of m places has, each once, are m.
use Prim.Native.Nat.{ℕ, zero, suc, ◌<◌}
use mathlib.Core.Path.{◌≡◌, refl, sym, ap, ◌∙◌, subst}
use mathlib.Core.Logic.{⊎_elim}
use mathlib.Core.List.Memᴰ
use mathlib.Core.List.{List, [], ◌∷◌, Memᴰ}
use native.Mathlib.Omega.{arith}
use lib.ListN.{length}
use Rattle.meaning.specs.Chain.{Graph}
use Rattle.meaning.proofs.Walks.{below_suc}
use Rattle.meaning.proofs.Pigeonhole.{Distinct}
use Rattle.followed.specs.Followed.{followed_names, followed_count}
use Rattle.followed.specs.Laws.{IsFollowed}
use Rattle.followed.proofs.DistinctLists.{mem_absent, same_size}
use Rattle.followed.proofs.FollowedLaws.{followed_iff, followed_distinct}

-- the names of the first m entries, the last first
entries : (ℕ → ℕ) → ℕ → List ℕ
entries name zero = []
entries name (suc m) = name m ∷ entries name m

entries_length : (name : ℕ → ℕ) (m : ℕ) → length (entries name m) ≡ m
unfolding entries
entries_length name zero = refl
entries_length name (suc m) = ap suc (entries_length name m)

entries_mem : (name : ℕ → ℕ) (m i : ℕ) → i < m → Memᴰ (name i) (entries name m)
unfolding entries
entries_mem name zero i l = absurd (omega arith)
entries_mem name (suc m) i l =
    ⊎_elim (λ (p : i ≡ m). Memᴰ.head (ap name p)) (λ (p : i < m). Memᴰ.tail (entries_mem name m i p)) (below_suc l)

entries_at : (name : ℕ → ℕ) (m x : ℕ) → Memᴰ x (entries name m) → (i : ℕ) × (i < m) × (name i ≡ x)
unfolding entries
entries_at name zero x t = absurd (Memᴰ.not-nil t)
entries_at name (suc m) x (Memᴰ.head e) = (m, omega arith, sym e)
entries_at name (suc m) x (Memᴰ.tail t) =
    let r = entries_at name m x t in
    (r.0, omega (arith, r.1), r.2)

entries_distinct : (name : ℕ → ℕ) (m : ℕ) → ((i j : ℕ) → i < j → j < m → name i ≡ name j → ⊥) → Distinct (entries name m)
unfolding entries
entries_distinct name zero apart = tt
entries_distinct name (suc m) apart = (
  mem_absent (name m) (entries name m) (λ t. let r = entries_at name m (name m) t in apart r.0 m r.1 (omega arith) r.2),
  entries_distinct name m (λ i j l h. apart i j l (omega arith)),
)

-- where the followed names are those of the first m entries, they are m
pub counted : (g : Graph) (a b : ℕ) (name : ℕ → ℕ) (m : ℕ) → ((i j : ℕ) → i < j → j < m → name i ≡ name j → ⊥)
    → ((x : ℕ) → IsFollowed g a b x → (i : ℕ) × (i < m) × (name i ≡ x)) → ((i : ℕ) → i < m → IsFollowed g a b (name i)) → followed_count g a b ≡ m
unfolding followed_count
counted g a b name m apart there back =
    same_size (followed_names g a b) (entries name m) (followed_distinct g a b) (entries_distinct name m apart)
    (λ x t. let r = there x ((followed_iff g a b x).0 t) in subst (λ y. Memᴰ y (entries name m)) r.2 (entries_mem name m r.0 r.1))
    (λ x t. let r = entries_at name m x t in subst (λ y. Memᴰ y (followed_names g a b)) r.2 ((followed_iff g a b (name r.0)).1 (back r.0 r.1)))
    ∙ entries_length name m
