-- `writer::put_number` meets its contract: the bytes that are copied are those of the number.
use native.Mathlib.Omega.{arith}
use mathlib.Core.Path.{ap, ◌∙◌}
use lib.ListN.{take}
use Rattle.writer.proofs.Numbers.{number_put}
use Rattle.writer.proofs.put_number.Goals as goal

pub returns : goal.returns
returns c =
    number_put c.args.out.now _ c.args.at c.args.width _ c.args.value c.requires.0 c.requires.1 (omega arith)
    (c.copy_from_slice.ensures.after ∙ ap (take _) c.to_le_bytes.ensures)
