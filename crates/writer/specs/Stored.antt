-- A bundle whose records are written one by one, each where the one before it ended.
use Rattle.std.specs.Prelude.{ℕ, ◌+◌, ◌≤◌, List, ◌≡◌, length, take, drop}
use Rattle.meaning.specs.Tree.{Bundle}
use Rattle.meaning.specs.Encoding.{bundle_bytes}
use Rattle.meaning.specs.Within.{BundleOk}
use Rattle.meaning.specs.Reader.{ok}
use Rattle.meaning.specs.ReadBundle.{read_bundle}
use Rattle.meaning.specs.Writing.{bundle_records}
use Rattle.writer.specs.Places.{records_after}

-- the places that hold the bytes of b once its records are written from `at` on
abbrev pub held : Bundle → ℕ → List ℕ → List ℕ
held b at places = take (length (bundle_bytes b)) (drop at (records_after (bundle_records b) at places))

pub record Stored : Type 0 where
  -- they hold the bytes of the bundle, if it is within the limits and there is room
  pub bytes : (b : Bundle) → BundleOk b → (at : ℕ) (places : List ℕ) → at + length (bundle_bytes b) ≤ length places → held b at places ≡ bundle_bytes b
  -- and are read back as the bundle
  pub reads : (b : Bundle) → BundleOk b → (at : ℕ) (places : List ℕ) → at + length (bundle_bytes b) ≤ length places
      → read_bundle (held b at places) ≡ ok b (length (bundle_bytes b))
