-- Writing one run of bytes behind another, and the parts of a violation's record.
use Prim.Native.Nat.{ℕ, suc, ◌+◌, ◌*◌, ◌≤◌, ◌<◌}
use native.Mathlib.Omega.{arith}
use native.Mathlib.Numerals.{add-one}
use mathlib.Core.Path.{◌≡◌, refl, sym, ap, subst, ◌∙◌}
use mathlib.Core.List.{List, [], ◌∷◌, ◌++◌, append-nil, map}
use lib.ListN.{length, get_or, set, take, length-append}
use Rattle.std.proofs.lemmas.List.{take_all}
use lib.Seq.{set_out, sets, length-sets, take-suc}
use Rattle.names.specs.Documents.{Item, byte, name, bytes}
use Rattle.meaning.specs.Lists.{flat_map}
use Rattle.meaning.specs.Report.{two_bytes, path_items, chain_items, violation_items}
use Rattle.meaning.specs.Violations.{violation}
use Rattle.meaning.proofs.Lists.{flat_map_append}
use Rattle.names.proofs.Items.{bytes_append}
use Rattle.violation.specs.declared.Path.{Path}
use Rattle.violation.specs.Records.{Puts, path_bytes, padded}

sets_append : (out : List ℕ) (at : ℕ) (xs ys : List ℕ) → sets (sets out at xs) (at + length xs) ys ≡ sets out at (xs ++ ys)
sets_append out at [] ys = ap (λ n. sets out n ys) (omega arith)
sets_append out at (x ∷ xs) ys = ap (λ n. sets (sets (set out at x) (suc at) xs) n ys) (omega arith) ∙ sets_append (set out at x) (suc at) xs ys

pub puts_both : {xs ys out out' out'' : List ℕ} {at m r : ℕ} → Puts xs out at out' m → Puts ys out' m out'' r → Puts (xs ++ ys) out at out'' r
puts_both {xs} {ys} {out} {out'} {out''} {at} {m} {r} p q = record {
  written = q.written ∙ go p.written p.behind;
  behind = omega (arith, p.behind, q.behind, length-append xs ys);
}
  where
    go : out' ≡ sets out at xs → m ≡ at + length xs → sets out' m ys ≡ sets out at (xs ++ ys)
    go e f = rw (e, f) (sets_append out at xs ys)

-- a name of a chain, behind 7F
abbrev pub link : ℕ → List Item
link n = byte 0x7F ∷ name n ∷ []

-- the items f for each of the first i numbers are written, in k bytes for each
pub record Each (f : ℕ → List Item) (k : ℕ) (xs out₀ : List ℕ) (next₀ : ℕ) (out : List ℕ) (next i : ℕ) : Type 0 where
  pub far : next ≡ next₀ + k * i
  pub puts : Puts (bytes (flat_map f (take i xs))) out₀ next₀ out next

module _ {f : ℕ → List Item} {k : ℕ} {xs out₀ : List ℕ} {next₀ : ℕ} {out : List ℕ} {next i : ℕ} (c : Each f k xs out₀ next₀ out next i) where
  pub each_next : {out' : List ℕ} {r : ℕ} → i < length xs → r ≡ next + k → Puts (bytes (f (get_or xs i 0))) out next out' r → Each f k xs out₀ next₀ out' r (i + 1)
  each_next {out'} {r} h e p = record {
    far = omega (arith, e, c.far);
    puts =
        rw (add-one, take-suc xs i 0 h, flat_map_append f (take i xs) (get_or xs i 0 ∷ []), append-nil (f (get_or xs i 0)), bytes_append (flat_map f (take i xs)) (f (get_or xs i 0)))
        (puts_both c.puts p);
  }

  pub each_end : length xs ≤ i → Puts (bytes (flat_map f xs)) out₀ next₀ out next
  each_end h = rw (sym (take_all i xs h)) c.puts

-- each number as a byte is the list itself
each_byte : (xs : List ℕ) → bytes (flat_map (λ b. byte b ∷ []) xs) ≡ xs
each_byte [] = refl
each_byte (x ∷ xs) = ap (x ∷◌) (each_byte xs)

pub puts_bytes : {out out' : List ℕ} {at r : ℕ} (xs : List ℕ) → Puts (bytes (flat_map (λ b. byte b ∷ []) xs)) out at out' r → Puts xs out at out' r
puts_bytes xs p = rw (sym (each_byte xs)) p

-- two bytes for each name
names_size : (xs : List ℕ) → length (bytes (map name xs)) ≡ 2 * length xs
names_size [] = refl
names_size (x ∷ xs) = omega (arith, names_size xs)

pub path_size : (path : Path) → length path.names ≡ 4 → length (path_bytes path) ≡ 9
path_size path e = omega (arith, names_size path.names, e)

-- a run of bytes changes no length
pub puts_size : {xs out out' : List ℕ} {at r : ℕ} → Puts xs out at out' r → length out' ≡ length out
puts_size {xs} {out} {out'} {at} p = ap length p.written ∙ length-sets out at xs

-- behind the end nothing is written: what is counted hangs on how many bytes there are
sets_out : (out : List ℕ) (at : ℕ) (xs : List ℕ) → length out ≤ at → sets out at xs ≡ out
sets_out out at [] l = refl
sets_out out at (x ∷ xs) l = ap (λ ys. sets ys (suc at) xs) (set_out out at x l) ∙ sets_out out (suc at) xs (omega arith)

module _ {out : List ℕ} {at : ℕ} (l : length out ≤ at) where
  pub puts_out : {xs : List ℕ} {r : ℕ} → r ≡ at + length xs → Puts xs out at out r
  puts_out {xs} e = record { written = sym (sets_out out at xs l); behind = e }

  pub puts_alike : {xs ys out' : List ℕ} {r : ℕ} → length xs ≡ length ys → Puts xs out at out' r → Puts ys out at out' r
  puts_alike {xs} {ys} e p = record { written = p.written ∙ sets_out out at xs l ∙ sym (sets_out out at ys l); behind = omega (arith, p.behind) }

-- the names of a path of at most four, and zeros
path_items_lem : (names : List ℕ) → length names ≤ 4 → path_bytes (padded names) ≡ bytes (path_items names)
path_items_lem [] h = refl
path_items_lem (a ∷ []) h = refl
path_items_lem (a ∷ b ∷ []) h = refl
path_items_lem (a ∷ b ∷ c ∷ []) h = refl
path_items_lem (a ∷ b ∷ c ∷ d ∷ []) h = refl
path_items_lem (a ∷ b ∷ c ∷ d ∷ e ∷ names) h = absurd (omega arith)

-- the parts of a record, one behind the other, are the record
record_items : (kind definition n : ℕ) (names chain : List ℕ) → length names ≤ 4
    → (0x70 + kind) ∷ bytes (two_bytes definition) ++ bytes (two_bytes n) ++ path_bytes (padded names) ++ bytes (chain_items chain)
    ≡ bytes (violation_items (violation kind definition n names chain))
record_items kind definition n names chain h =
    ap (λ xs. (0x70 + kind) ∷ bytes (two_bytes definition) ++ bytes (two_bytes n) ++ xs)
    (ap (◌++ bytes (chain_items chain)) (path_items_lem names h) ∙ sym (bytes_append (path_items names) (chain_items chain)))

pub record_puts : {kind k : ℕ} (definition n : ℕ) {path : Path} (names chain : List ℕ) {out o₁ o₂ o₃ o₄ out' : List ℕ} {at m₁ m₂ m₃ m₄ r : ℕ} → k ≡ kind
    → Puts ((0x70 + k) ∷ []) out at o₁ m₁ → Puts (bytes (two_bytes definition)) o₁ m₁ o₂ m₂ → Puts (bytes (two_bytes n)) o₂ m₂ o₃ m₃
    → Puts (path_bytes path) o₃ m₃ o₄ m₄ → Puts (bytes (chain_items chain)) o₄ m₄ out' r → length names ≤ 4 → path ≡ padded names
    → Puts (bytes (violation_items (violation kind definition n names chain))) out at out' r
record_puts {kind} {k} definition n {path} names chain {out} {o₁} {o₂} {o₃} {o₄} {out'} {at} {m₁} {m₂} {m₃} {m₄} {r} is a b c d e few same =
    subst (λ xs. Puts xs out at out' r) (ap (λ j. (0x70 + j) ∷ bytes (two_bytes definition) ++ bytes (two_bytes n) ++ path_bytes (padded names) ++ bytes (chain_items chain)) is ∙ record_items kind definition n names chain few)
    (puts_both a (puts_both b (puts_both c (puts_both (subst (λ p. Puts (path_bytes p) o₃ m₃ o₄ m₄) same d) e))))

-- the bytes of a record
links_size : (chain : List ℕ) → length (bytes (flat_map link chain)) ≡ 3 * length chain
links_size [] = refl
links_size (n ∷ chain) = omega (arith, links_size chain)

pub record_size : (kind definition n : ℕ) (names chain : List ℕ) → length names ≤ 4 → length (bytes (violation_items (violation kind definition n names chain))) ≡ 16 + 3 * length chain
record_size kind definition n names chain h = sym (ap length (record_items kind definition n names chain h)) ∙ omega (arith, links_size chain)

-- a record that starts behind the end
pub record_out : (kind definition n : ℕ) (names chain : List ℕ) {out : List ℕ} {at : ℕ} → length out ≤ at → length names ≤ 4
    → Puts (bytes (violation_items (violation kind definition n names chain))) out at out (at + 16 + 3 * length chain)
record_out kind definition n names chain l few = puts_out l (omega (arith, record_size kind definition n names chain few))

-- chains of as many names make records of as many bytes
pub record_alike : (kind definition n : ℕ) (names chain chain' : List ℕ) → length chain ≡ length chain'
    → length (bytes (violation_items (violation kind definition n names chain))) ≡ length (bytes (violation_items (violation kind definition n names chain')))
record_alike kind definition n names chain chain' e =
    let size : (c : List ℕ) → length (bytes (path_items names ++ chain_items c)) ≡ length (bytes (path_items names)) + 2 + 3 * length c =
    λ c. ap length (bytes_append (path_items names) (chain_items c)) ∙ omega (arith, length-append (bytes (path_items names)) (bytes (chain_items c)), links_size c) in
    omega (arith, size chain, size chain')
