-- `writer::write_record` meets its contract: what is due by the parts of a kind is due by the kind.
use Rattle.std.proofs.Common.{rules, ◌≡◌, length}
use Rattle.bundle.specs.Opened.{answer_meant}
use Rattle.writer.proofs.KindLaws.{kind_parts, parts_written, no_kind}
use Rattle.writer.proofs.write_record.Goals as goal

pub returns-in_default : goal.returns-in_default
unfolding answer_meant
returns-in_default c = no_kind _ _ _ _ c.in_default.ensures

pub write_parts-requires : goal.write_parts-requires
write_parts-requires c = kind_parts _ _ c.in-Some.ensures

pub returns : goal.returns
returns c =
    let n : length c.args.values ≡ 4 = search rules in
    parts_written _ _ _ n c.in-Some.ensures c.write_parts.ensures
