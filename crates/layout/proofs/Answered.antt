-- Where nothing is said, the answer to what the input had was written.
use Rattle.std.proofs.Common.{ℕ, ◌≡◌, ◌≢◌, ◌≤◌, ◌<◌, Bool, true, false, List, [], ◌∷◌, ◌++◌, length, take, Option, None, Some, IfSome, IsTrue, arith, refl, sym, ap, subst, ◌∙◌, append-nil, length-take-le, take_all}
use lib.Seq.{take-append_seam}
use Rattle.std.specs.Io.KnownBytes.{Appends}
use Rattle.words.specs.Running.{reads_bundle, message_of}
use Rattle.words.specs.declared.Message as told
use Rattle.words.specs.declared.Order as asked
use Rattle.words.specs.declared.Order.TheVariants.{Report, Renumber, Chain, Followed, Size, Value, Help}
use Rattle.responses.specs.Response.{Holds, answer_to}
use Rattle.layout.specs.Reading.{ReadAll, ReadFor, ReadInto}
use Rattle.layout.specs.Response.{output_of}
use Rattle.layout.proofs.Overlong.{same_answer}

-- the bytes that were read are the first of the input, as many as there are places
first_bytes : (room n : ℕ) (places bytes rest : List ℕ) → length places ≡ room → n ≤ length places → bytes ≡ take n places ++ rest → (n < length places → rest ≡ []) → take n places ≡ take room bytes
first_bytes room n places bytes [] size within whole last =
    let long = length-take-le n places within in
    sym (ap (take room) (whole ∙ append-nil (take n places)) ∙ take_all room (take n places) (omega arith))
first_bytes room n places bytes (x ∷ xs) size within whole last =
    let full : n < length places → ⊥ = λ h. let none = last h in cc in
    let long : length (take n places) ≡ room = length-take-le n places within ∙ omega arith in
    sym (ap (take room) whole ∙ ap (λ k. take k (take n places ++ (x ∷ xs))) (sym long) ∙ take-append_seam (take n places) (x ∷ xs))

-- an answer to what was read is one to the input
for_bundle : (order : asked.Order) (n : ℕ) (places text : List ℕ) (before after old new : Option (List ℕ)) → length places ≡ 32769 → n ≤ length places → ReadAll (Some n) places before after
    → text ≡ answer_to order (take n places) → Appends old new text → IfSome before (λ bytes. Appends old new (answer_to order bytes))
for_bundle order n places text None after old new size within reads same wrote = tt
for_bundle order n places text (Some bytes) None old new size within reads same wrote = absurd reads.0
for_bundle order n places text (Some bytes) (Some rest) old new size within reads same wrote =
    let first = first_bytes 32769 n places bytes rest size within reads.0 reads.1 in
    subst (Appends old new) (same ∙ ap (answer_to order) first ∙ same_answer order bytes) wrote

-- an order that is not for help reads a bundle
reads_some : (order : asked.Order) → order ≢ Help → reads_bundle order ≡ true
reads_some Report not_help = refl
reads_some Renumber not_help = refl
reads_some (Chain from to) not_help = refl
reads_some (Followed from to) not_help = refl
reads_some (Size definition) not_help = refl
reads_some (Value definition) not_help = refl
reads_some Help not_help = absurd (not_help refl)

-- what was written where neither reading nor writing failed
without_failure : (order : asked.Order) (read : Option ℕ) (written : Bool) (size : ℕ) (places out : List ℕ) (before after old new : Option (List ℕ)) → message_of read written ≡ None → length places ≡ 32769 → ReadInto read places
    → ReadAll read places before after → Holds (output_of order read places) out size → (IsTrue written → Appends old new (take size out)) → IfSome before (λ bytes. Appends old new (answer_to order bytes))
without_failure order (Some n) true size places out before after old new ok long into reads holds wrote =
    for_bundle order n places (take size out) before after old new long into reads holds.first (wrote refl)
without_failure order (Some n) false size places out before after old new ok long into reads holds wrote = cc
without_failure order None written size places out before after old new ok long into reads holds wrote = cc

-- the same for each order, by what is said
pub answered : (order : asked.Order) (read : Option ℕ) (written : Bool) (message : Option told.Message) (size : ℕ) (places out : List ℕ) (before after old new : Option (List ℕ)) → length places ≡ 32769 → ReadInto read places
    → ReadFor (reads_bundle order) read places before after → Holds (output_of order read places) out size → (order ≢ Help → IsTrue written → Appends old new (take size out))
    → message ≡ message_of read written → message ≡ None → order ≢ Help → IfSome before (λ bytes. Appends old new (answer_to order bytes))
answered order read written message size places out before after old new long into reads holds wrote is said not_help =
    let bundle = subst (λ b. ReadFor b read places before after) (reads_some order not_help) reads in
    without_failure order read written size places out before after old new (sym is ∙ said) long into bundle holds (wrote not_help)
