-- What is known between the records that lead.
use Prim.Native.Nat.{ℕ, ◌+◌, ◌≤◌, ◌<◌}
use native.Mathlib.Omega.{arith}
use mathlib.Core.Path.{◌≡◌, sym, ap, ◌∙◌}
use mathlib.Core.Bool.{false}
use mathlib.Core.List.{List, ◌∷◌}
use lib.ListN.{length}
use Rattle.std.specs.Prelude.{None}
use Rattle.meaning.specs.Lookup.{count, definition_of}
use Rattle.meaning.specs.Circle.{resolve}
use Rattle.bundle.specs.Definitions.{bundle_of}
use Rattle.scan.specs.Parts.{Part, lead}
use Rattle.scan.specs.Scan.{record_name, Run, Records, lead_to, from_stop, StopsFirst, NextStop}
use Rattle.scan.proofs.ScanLaws.{unique, Lead, first_lead, stop_leads, from_names}
use Rattle.scan.proofs.Walks.{lead_none, lead_one}
use Rattle.lookup.specs.Led.{LedFirst, NextLed}

-- none of the records from `at` to `from` leads to a definition
pub record Seeking (s : List ℕ) (at end from : ℕ) : Type 0 where
  pub forward : at ≤ from
  pub others : Records s from end
  pub same : (ps : List Part) → Run s end at ps → lead_to s ps ≡ lead_to s others.parts

pub seeking_start : {s : List ℕ} {at end : ℕ} → Records s at end → Seeking s at end at
seeking_start {s} {at} {end} r = record { forward = omega arith; others = r; same = λ ps a. ap (lead_to s) (unique s end at ps r.parts a r.run) }

module _ {s : List ℕ} {at end from : ℕ} (k : Seeking s at end from) where
  -- the others from the first on that leads to a name
  onward : (ps : List Part) → Run s end at ps → lead_to s ps ≡ lead_to s (from_stop false false k.others.parts)
  onward ps a = k.same ps a ∙ sym (ap (resolve (bundle_of s)) (from_names false false k.others.parts))

  pub seeking_end : NextStop s from end false false None → NextLed s at end None
  seeking_end l ps a = onward ps a ∙ ap (lead_to s) (l k.others.parts k.others.run)

  -- that one is at `next`
  module _ {next : ℕ} (l : StopsFirst s from end false false next) where
    here : Lead s end next (from_stop false false k.others.parts)
    here = first_lead s (l.rest k.others.parts k.others.run) l.before (stop_leads s next l.stop)

    pub name_there : next + 3 ≤ length s
    name_there = omega (arith, here.there, k.others.bound)

    -- those behind it
    behind : Records s (next + 3) end
    behind = record { parts = here.rest; run = here.run; bound = k.others.bound }

    led : (ps : List Part) → Run s end at ps → lead_to s ps ≡ lead_to s (lead (record_name s next) ∷ behind.parts)
    unfolding behind
    led ps a = onward ps a ∙ ap (lead_to s) here.is

    module _ {name j : ℕ} (e : name ≡ record_name s next) (q : j ≡ definition_of (bundle_of s) name) where
      is : j ≡ definition_of (bundle_of s) (record_name s next)
      is = q ∙ ap (definition_of (bundle_of s)) e

      pub led_first : j < count (bundle_of s) → LedFirst s at end j (next + 3)
      led_first n = record {
        below = n;
        forward = omega (arith, k.forward, l.forward);
        within = here.there;
        others = behind;
        leads = λ ps a. led ps a ∙ lead_one s (record_name s next) behind.parts is n;
      }

      pub seeking_next : count (bundle_of s) ≤ j → Seeking s at end (next + 3)
      seeking_next n = record {
        forward = omega (arith, k.forward, l.forward);
        others = behind;
        same = λ ps a. led ps a ∙ lead_none s (record_name s next) behind.parts is n;
      }
