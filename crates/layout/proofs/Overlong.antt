-- Of more than 32,768 bytes it does not matter which they are.
use Rattle.std.proofs.Common.{inl, inr, ℕ, ◌≡◌, ◌<◌, List, length, take, arith, refl, sym, ap, cond, ◌∙◌, length-take-le, take_all}
use Rattle.std.proofs.lemmas.Bool.{lt-leb}
use Rattle.std.proofs.lemmas.Bool.Decides.{leb_tells}
use Rattle.meaning.specs.Reader.{refused}
use Rattle.meaning.specs.ReadBundle.{read_bundle, read_records}
use Rattle.meaning.specs.Due.{reporting, renumbering, chaining}
use Rattle.meaning.specs.Calls.{on_bundle}
use Rattle.followed.specs.Followed.{following}
use Rattle.fixed_meaning.specs.Fixed.{sizing, placing}
use Rattle.fixed_meaning.specs.Valuing.{valuing}
use Rattle.words.specs.declared.Order.{Order}
use Rattle.words.specs.declared.Order.TheVariants.{Report, Renumber, Chain, Followed, Size, Value, Help}
use Rattle.responses.specs.Response.{answer_to}

overlong : (s : List ℕ) → 32768 < length s → read_bundle s ≡ refused 1
unfolding read_bundle
overlong s h = ap (λ b. cond b (read_records s 0) (refused 1)) (lt-leb (length s) 32768 h)

same_reading : (s : List ℕ) → read_bundle (take 32769 s) ≡ read_bundle s
same_reading s =
    elim (leb_tells (length s) 32769) [
      | inl short ↦ ap read_bundle (take_all 32769 s short.1)
      | inr long ↦ let room = length-take-le 32769 s (omega arith) in overlong (take 32769 s) (omega arith) ∙ sym (overlong s (omega arith))
    ]

pub same_answer : (order : Order) (s : List ℕ) → answer_to order (take 32769 s) ≡ answer_to order s
unfolding reporting renumbering chaining following sizing placing valuing on_bundle
same_answer Report s = rw (same_reading s) refl
same_answer Renumber s = rw (same_reading s) refl
same_answer (Chain from to) s = rw (same_reading s) refl
same_answer (Followed from to) s = rw (same_reading s) refl
same_answer (Size definition) s = rw (same_reading s) refl
same_answer (Value definition) s = rw (same_reading s) refl
same_answer Help s = refl
