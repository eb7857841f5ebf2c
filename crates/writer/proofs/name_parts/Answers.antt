use Rattle.writer.proofs.ShapeLaws.{first_names}
use Rattle.writer.proofs.name_parts.Goals as goal

pub returns : goal.returns
returns c = first_names _ c.requires
