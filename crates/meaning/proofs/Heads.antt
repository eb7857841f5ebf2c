-- What reading the attributes of a type gives, by the tests that decide it.
use Prim.Native.Nat.{ℕ, suc, ◌+◌, ◌*◌, ◌≤◌, ◌<◌}
use native.Mathlib.Omega.{arith}
use mathlib.Core.Path.{◌≡◌}
use mathlib.Core.List.{List}
use lib.ListN.{length, get_or}
use borrow.Author.Tests.{le-leb, lt-leb}
use Rattle.meaning.specs.Reader.{ok, refused, little}
use Rattle.meaning.specs.ReadType.{head}
use Rattle.meaning.proofs.Readings.{due_ok, due_short}

-- numbers of one and of two bytes
pub little_1 : (s : List ℕ) (at : ℕ) → little s at 1 ≡ get_or s at 0
unfolding little
little_1 s at = omega arith

pub little_2 : (s : List ℕ) (at : ℕ) → little s at 2 ≡ get_or s at 0 + 256 * get_or s (at + 1) 0
unfolding little
little_2 s at = let p : at + 1 ≡ suc at = omega arith in rw p (omega arith)

module _ (w at : ℕ) (s : List ℕ) where
  -- the body runs past the end
  pub head_short : length s < at + (9 + w) → head w s at ≡ refused 2
  unfolding head
  head_short h = rw (due_short (9 + w) at s h)

  module _ (h : at + (9 + w) ≤ length s) where
    -- packed is over 1
    pub head_packed : 1 < get_or s at 0 → head w s at ≡ refused 4
    unfolding head
    head_packed p = rw (due_ok (9 + w) at s h, lt-leb (get_or s at 0) 1 p)

    -- the body is right
    pub head_ok : get_or s at 0 ≤ 1 → head w s at ≡ ok (record { attributes = record { packed = get_or s at 0; aligned = little s (at + 1) 8 }; last = little s (at + 1 + 8) w }) (at + 1 + 8 + w)
    unfolding head
    head_ok p = rw (due_ok (9 + w) at s h, le-leb (get_or s at 0) 1 p)
