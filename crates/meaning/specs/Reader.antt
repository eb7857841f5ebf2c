-- Readers: what reading at a position of a byte string gives, a value and the position after it, or the number of a fault.
use Rattle.std.specs.Prelude.{ℕ, zero, suc, ◌+◌, ◌*◌, Bool, true, false, cond, List, [], ◌∷◌, length, get_or, leb}

-- what reading gives
pub data Read (A : Type 0) : Type 0 where
  ok : A → ℕ → Read A
  refused : ℕ → Read A

-- a reader of A: from a byte string and a position
abbrev pub Reader : Type 0 → Type 0
Reader A = List ℕ → ℕ → Read A

-- the value a, and nothing read
abbrev pub done : {A : Type 0} → A → Reader A
done a s at = ok a at

-- fault k
abbrev pub refuse : {A : Type 0} → ℕ → Reader A
refuse k s at = refused k

-- go on after what was read, from the position behind it
abbrev pub after : {A B : Type 0} → Read A → (A → Reader B) → List ℕ → Read B
after (ok a at) f s = f a s at
after (refused k) f s = refused k

abbrev pub ◌>>=◌ : {A B : Type 0} → Reader A → (A → Reader B) → Reader B
◌>>=◌ r f s at = after (r s at) f s

abbrev pub ◌>>◌ : {A B : Type 0} → Reader A → Reader B → Reader B
◌>>◌ r f s at = after (r s at) (λ _. f) s

-- n bytes are due here: fault 2 where the byte string ends before
unfoldable pub due : ℕ → Reader (Unit {0})
due n s at = cond (leb (at + n) (length s)) (ok tt at) (refused 2)

-- a byte
abbrev pub byte : Reader ℕ
byte s at = ok (get_or s at 0) (at + 1)

-- the little-endian number of w bytes at a position
unfoldable pub little : List ℕ → ℕ → ℕ → ℕ
little s at zero = 0
little s at (suc w) = get_or s at 0 + 256 * little s (suc at) w

-- a number of w bytes
abbrev pub number : ℕ → Reader ℕ
number w s at = ok (little s at w) (at + w)

-- fault k where the test fails
abbrev pub check : Bool → ℕ → Reader (Unit {0})
check true k = done tt
check false k = refuse k

-- n values, one after the other, gathered by `cons` and `nil`
unfoldable pub many : {A B : Type 0} → (A → B → B) → B → Reader A → ℕ → Reader B
many cons nil r zero = done nil
many cons nil r (suc n) = do
  a ← r
  rest ← many cons nil r n
  done (cons a rest)

-- the n names of two bytes each at a position
unfoldable pub names_from : List ℕ → ℕ → ℕ → List ℕ
names_from s at zero = []
names_from s at (suc n) = little s at 2 ∷ names_from s (at + 2) n
