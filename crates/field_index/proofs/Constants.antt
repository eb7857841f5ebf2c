-- It is noted of one definition after the other whether it is an enum with variants of constant size.
--     constants_next                 the walk over the definitions
--     constants_stay                 it stays with the places before the starts of parts
use Rattle.std.specs.Int.{from_bool}
use Prim.Native.Nat.{ℕ, ◌+◌, ◌≤◌, ◌<◌}
use native.Mathlib.Omega.{arith}
use native.Mathlib.Decide.{dec_lt}
use mathlib.Core.Bool.{Bool}
use mathlib.Core.List.{List}
use mathlib.Core.Logic.{by_cases}
use mathlib.Core.Path.{◌≡◌, ap, ◌∙◌}
use lib.ListN.{length, length-set, get_or, set}
use lib.Seq.{get_or-set_same, get_or-set_other}
use Rattle.meaning.specs.Sizes.{is_enum_with_constant_size_variants}
use Rattle.bundle.specs.Definitions.{type_at, Table}
use Rattle.field_index.specs.Noted.{constants_at, parts_at, ConstantsNoted, Front}
use Rattle.field_index.proofs.Structs.{table_set}

-- of the first i of n definitions it is noted
pub record Marking (s : List ℕ) (n : ℕ) (places₀ places : List ℕ) (i : ℕ) : Type 0 where
  pub bound : i ≤ n
  pub room : parts_at ≤ length places
  pub size : length places ≡ length places₀
  pub table : Table s n places
  pub each : (j : ℕ) → j < i → get_or places (constants_at + j) 0 ≡ from_bool (is_enum_with_constant_size_variants (type_at 24 s (get_or places j 0)))

module _ {s : List ℕ} {n : ℕ} {places₀ places : List ℕ} {i : ℕ} (o : Marking s n places₀ places i) where
  pub constants_small : i < n → i < 256
  constants_small l = omega (arith, o.table.count, o.table.placed.room)

  pub constants_next : i < n → {b : Bool} → b ≡ is_enum_with_constant_size_variants (type_at 24 s (get_or places i 0)) → {v : ℕ} → v ≡ from_bool b → Marking s n places₀ (set places (constants_at + i) v) (i + 1)
  constants_next l {b} e {v} q =
      let k = constants_at + i in
      let few = constants_small l in
      let other : (j : ℕ) → (j ≡ k → ⊥) → get_or (set places k v) j 0 ≡ get_or places j 0 = λ j ne. get_or-set_other places k j v 0 ne in
      record {
        bound = omega arith;
        room = omega (arith, length-set places k v, o.room);
        size = length-set places k v ∙ o.size;
        table = table_set o.table k v (omega arith);
        each = λ j c.
            rw (other j (λ z. omega (arith, z, few)))
            (by_cases (dec_lt j i) (λ (d : j < i). other (constants_at + j) (λ z. omega (arith, z)) ∙ o.each j d)
            (λ (d : ¬ (j < i)).
            let z : j ≡ i = omega arith in
            rw z (get_or-set_same places k v 0 (omega (arith, few, o.room)) ∙ q ∙ ap from_bool e)));
      }

pub constants_stay : {s : List ℕ} {n : ℕ} {places u : List ℕ} → n ≤ 256 → Front places u → ConstantsNoted s places n → ConstantsNoted s u n
constants_stay few f o =
    record {
      size = omega (arith, f.size, o.size);
      each = λ i c. rw (f.same i (omega arith)) (f.same (constants_at + i) (omega arith) ∙ o.each i c);
    }
