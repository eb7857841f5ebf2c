use mathlib.Core.Path.{ap}
use Rattle.checks.proofs.ChainChecks.{graph_of}
use Rattle.search.proofs.Wanted.{wanted_on}
use Rattle.validate.specs.Validating.{is_tag}
use Rattle.validate.proofs.Writing.{of_tag, of_size}
use Rattle.cycles.proofs.Sharing.{unchanged}
use Rattle.validate.proofs.check_reference.Goals as goal

pub check_enum_tag_layout_cycle-requires : goal.check_enum_tag_layout_cycle-requires
check_enum_tag_layout_cycle-requires c = record { lent = c.requires.lent; fit = c.requires.fit }

pub shape_of-work-in-Tag : goal.shape_of-work-in-Tag
shape_of-work-in-Tag c = c.check_enum_tag_layout_cycle.auto.work

pub returns-in-Tag : goal.returns-in-Tag
returns-in-Tag c = (wanted_on c.check_enum_tag_layout_cycle.ensures.0 (λ l. of_tag _ _ _ _ (ap is_tag c.in-Tag.is)), c.check_enum_tag_layout_cycle.ensures.1, c.check_enum_tag_layout_cycle.ensures.2, c.check_enum_tag_layout_cycle.ensures.3)

pub check_array_size_layout_cycle-requires : goal.check_array_size_layout_cycle-requires
check_array_size_layout_cycle-requires c = record { edges_prepared = (c.args.checks.now.prepared, c.requires.lent, c.requires.fit.0); graph_of = graph_of c.args.checks.now.opened.layout_of }

pub shape_of-work-in-Size : goal.shape_of-work-in-Size
shape_of-work-in-Size c = c.check_array_size_layout_cycle.auto.work

pub returns-in-Size : goal.returns-in-Size
returns-in-Size c = (wanted_on c.check_array_size_layout_cycle.ensures.0 (λ l. of_size _ _ _ _ (ap is_tag c.in-Size.is)), c.check_array_size_layout_cycle.ensures.1, c.requires.fit.1, unchanged)
