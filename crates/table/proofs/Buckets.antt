-- Members of a table by their buckets.
--     Looking        a bucket gone through from its head
--     place_or       the place as a number, for callers that go on with the count where there is none
--     members_same   the members stay where the places do
use Prim.Native.Nat.{ℕ, ◌+◌, ◌-◌, ◌*◌, ◌%◌, ◌≤◌, ◌<◌}
use mathlib.Core.Path.{◌≡◌, sym, ap, ◌∙◌}
use mathlib.Core.List.{List}
use native.Mathlib.Omega.{arith}
use lib.ListN.{length, get_or}
use Rattle.std.specs.Prelude.{Option, Some, None, unwrap_or}
use Rattle.table.specs.Table.{PlaceIn, member, Last, Members}

-- x is none of the members from e on, and the member before e is of its bucket
pub record Looking (t : List ℕ) (a b n x e : ℕ) : Type 0 where
  pub within : e ≤ n
  pub bucket : 0 < e → member t a b (e - 1) % b ≡ x % b
  pub passed : (k : ℕ) → e ≤ k → k < n → member t a b k ≡ x → ⊥

-- r is the one place below n where f gives x, and n where it gives x at none
pub record PlaceOr (f : ℕ → ℕ) (n x r : ℕ) : Type 0 where
  pub within : r ≤ n
  pub here : r < n → f r ≡ x
  pub only : (i : ℕ) → i < n → f i ≡ x → i ≡ r

pub place_or : {f : ℕ → ℕ} {n x : ℕ} (o : Option ℕ) → PlaceIn f n x o → PlaceOr f n x (unwrap_or o n)
place_or (Some r) p = record { within = omega (arith, p.within); here = λ _. p.here; only = p.only }
place_or None p = record { within = omega arith; here = λ l. absurd (omega arith); only = λ i l e. absurd (p i l e) }

-- a table stays where its places do
module _ {t : List ℕ} (u : List ℕ) {a b n : ℕ} (m : Members t a b n) (same : (i : ℕ) → a ≤ i → i < a + b + 2 * n → get_or u i 0 ≡ get_or t i 0) where
  member_same : (k : ℕ) → k < n → member u a b k ≡ member t a b k
  member_same k l = same (a + b + 2 * k) (omega arith) (omega arith)

  bucket_same : {k h v : ℕ} → k ≤ n → Last t a b k h v → Last u a b k h v
  bucket_same {v = v} l o =
      record {
        within = o.within;
        here = λ c. ap (λ y. y % b) (member_same (v - 1) (omega (arith, o.within))) ∙ o.here c;
        none = λ j c d is. o.none j c d (ap (λ y. y % b) (sym (member_same j (omega arith))) ∙ is);
      }

  pub members_same : length t ≤ length u → Members u a b n
  members_same l =
      record {
        buckets = m.buckets;
        within = omega (arith, m.within);
        apart = λ i j c d e. m.apart i j c d (sym (member_same i (omega arith)) ∙ e ∙ member_same j d);
        heads = λ h c. rw (same (a + h) (omega arith) (omega arith)) (bucket_same (omega arith) (m.heads h c));
        links = λ k c.
            rw (member_same k c, same (a + b + 2 * k + 1) (omega arith) (omega arith)) (bucket_same (omega arith) (m.links k c));
      }
