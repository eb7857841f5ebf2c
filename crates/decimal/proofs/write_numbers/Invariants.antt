use Rattle.std.proofs.Common.{◌+◌, ◌*◌, ◌≤◌, map, take}
use Rattle.decimal.specs.Decimal.{lines, Writes}
use Rattle.decimal.proofs.write_numbers.Given as goal

abbrev pub invariant-loop-number : goal.invariant-loop-number
invariant-loop-number g l = record {
  writes : Writes (lines (map g.T.Number.value (take l.number-index l.list))) l.initial.out l.start l.out l.at;
  far : l.at ≤ l.start + (g.T.Number.digits + 1) * l.number-index;
}
