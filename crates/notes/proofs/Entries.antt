-- References are listed one after the other.
--     walk_room, -next, -end   the walk over those of a run
use Prim.Native.Nat.{ℕ, ◌+◌, ◌*◌, ◌≤◌, ◌<◌}
use mathlib.Core.Path.{◌≡◌, sym, ap, ◌∙◌}
use mathlib.Core.List.{List}
use mathlib.Core.Logic.{by_cases}
use native.Mathlib.Omega.{arith}
use native.Mathlib.Decide.{dec_lt}
use Rattle.sizes.proofs.ScanLaws.{nothing_left}
use lib.ListN.{length, get_or}
use Rattle.table.specs.Table.{Within}
use Rattle.sizes.specs.Scan.{references_from, Fits}
use Rattle.checks.specs.Checks.{ReferenceIs}
use Rattle.notes.specs.Notes.{Entry, Lists}
use Rattle.notes.specs.Listing.{RoomFor}
use Rattle.notes.proofs.Stays.{entry_same}

-- of the references from `at` to `end` those before `next` are listed, in the places from `used` to `to`
pub record Walk (s : List ℕ) (at end : ℕ) (t : List ℕ) (used : ℕ) (u : List ℕ) (next to : ℕ) : Type 0 where
  pub fits : Fits s (references_from s next end)
  pub left : to + 3 * length (references_from s next end) ≡ used + 3 * length (references_from s at end)
  pub more : used ≤ to
  pub only : Within used to t u
  pub listed : (v : List ℕ) (e : ℕ) → ((i : ℕ) → used ≤ i → i < to → get_or v i 0 ≡ get_or u i 0) → Lists s v e to (references_from s next end) → Lists s v e used (references_from s at end)

module _ {s : List ℕ} {at end : ℕ} {t : List ℕ} {used : ℕ} {u : List ℕ} {next to : ℕ} (c : Walk s at end t used u next to) where
  module _ {p after : ℕ} (g : ReferenceIs s next end p after) where
    -- it stands before the end
    pub walk_before : next < end
    walk_before =
        by_cases (dec_lt next end) (λ (l : next < end). l)
        (λ (l : ¬ (next < end)). absurd (omega (arith, ap length (sym (nothing_left s next end (omega arith)) ∙ g.rest))))

    -- there is room for one more
    pub walk_room : RoomFor t used (length (references_from s at end)) → RoomFor u to 1
    walk_room r =
        let long = ap length g.rest in
        record { there = omega (arith, long, c.left, r.there, c.only.size); small = omega (arith, long, c.left, r.small) }

    pub walk_next : {v : List ℕ} → Entry s v to p → Within to (to + 3) u v → Walk s at end t used v after (to + 3)
    walk_next {v} n w =
        record {
          fits = g.fits;
          left = omega (arith, ap length g.rest, c.left);
          more = omega (arith, c.more);
          only = record {
            size = w.size ∙ c.only.size;
            before = λ i b. w.before i (omega (arith, c.more)) ∙ c.only.before i b;
            behind = λ i b. w.behind i b ∙ c.only.behind i (omega arith);
          };
          listed = λ x e same l.
              c.listed x e (λ i b d. same i b (omega arith) ∙ w.before i d)
              (rw g.rest (entry_same x (λ i b d. same i (omega (arith, c.more)) d) n, l));
        }
