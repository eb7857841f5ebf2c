-- What the code's answer shows of a header that is read.
use Rattle.std.specs.Prelude.{Err, Ok, Result}
use Rattle.refusal.specs.declared.Refusal.{Refusal}
use Rattle.refusal.specs.Numbers.{refusal_of}
use Rattle.records.specs.declared.Header.{Header}
use Rattle.meaning.specs.Reader.{Read, ok, refused}
use Rattle.meaning.specs.ReadBundle as reading

-- the counts of a header and where it ended
abbrev pub counts_of : Read reading.Header → Result Header Refusal
counts_of (ok h at) = Ok (record { definitions = h.definitions; edges = h.edges; end = at })
counts_of (refused k) = Err (refusal_of k)
