-- What the program writes for its words.
use Rattle.std.specs.Prelude.{ℕ, List, [], take, Option, Some, None}
use Rattle.words.specs.declared.Order.{Order}
use Rattle.responses.specs.Response.{answer_to}

-- for what was read into the places: nothing where reading failed. The text of help is the code's
abbrev pub output_of : Order → Option ℕ → List ℕ → List ℕ
output_of order (Some n) places = answer_to order (take n places)
output_of order None places = []
