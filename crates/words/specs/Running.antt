-- What the program makes of what is read and written.
use Rattle.std.specs.Prelude.{ℕ, Bool, true, false, Option, Some, None}
use Rattle.words.specs.declared.Order.{Order}
use Rattle.words.specs.declared.Order.TheVariants.{Report, Renumber, Chain, Followed, Size, Value, Help}
use Rattle.words.specs.declared.Message.{Message}
use Rattle.words.specs.declared.Message.TheVariants.{Arguments, Unread, Unwritten}

-- whether an order is for a bundle: help reads nothing
abbrev pub reads_bundle : Order → Bool
reads_bundle Report = true
reads_bundle Renumber = true
reads_bundle (Chain from to) = true
reads_bundle (Followed from to) = true
reads_bundle (Size definition) = true
reads_bundle (Value definition) = true
reads_bundle Help = false

-- the same for what was asked, if it was: wrong arguments read nothing
abbrev pub reads_for : Option Order → Bool
reads_for None = false
reads_for (Some order) = reads_bundle order

-- what is said on standard error, if something is, of the first thing that failed: reading, then writing
abbrev pub message_of : Option ℕ → Bool → Option Message
message_of None written = Some Unread
message_of (Some n) true = None
message_of (Some n) false = Some Unwritten

-- the same for what was asked, if it was: wrong arguments come before both
abbrev pub said : Option Order → Option ℕ → Bool → Option Message
said None read written = Some Arguments
said (Some order) read written = message_of read written
