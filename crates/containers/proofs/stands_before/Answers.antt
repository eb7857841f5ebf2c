use mathlib.Core.Path.{sym, ◌∙◌}
use Rattle.fields.proofs.Lookups.{defined, undefined, struct_none}
use Rattle.field_index.proofs.Order.{noted_there}
use Rattle.containers.proofs.Before.{held_at, before_other, before_no, before_unnamed, before_shown}
use Rattle.containers.proofs.stands_before.Goals as goal

pub returns-in_default : goal.returns-in_default
returns-in_default c e p = before_other _ e _ _ _ c.in_default.not-At p

pub returns-in_default-definition_of : goal.returns-in_default-definition_of
returns-in_default-definition_of c e p = before_no _ e _ _ (struct_none _ _ (undefined c.args.definitions.now.table _ c.in_default-definition_of.ensures))

pub indices_of-requires : goal.indices_of-requires
indices_of-requires c =
    let d = defined c.args.definitions.now.table c.in-Some.ensures in
    (noted_there c.args.definitions.now.table c.requires d.below, (_, c.requires.each _ d.below))

pub returns-in_default-indices_of : goal.returns-in_default-indices_of
returns-in_default-indices_of c e p =
    let d = defined c.args.definitions.now.table c.in-Some.ensures in
    before_unnamed _ e _ _ _ _ d (held_at _ (sym c.in-At.is ∙ p)) (c.in_default-indices_of.ensures.of _ (c.requires.each _ d.below)).1

pub returns : goal.returns
returns c e p =
    let d = defined c.args.definitions.now.table c.in-Some.ensures in
    before_shown _ e _ _ _ _ d (held_at _ (sym c.in-At.is ∙ p)) (c.in-Some-indices_of.ensures.of _ (c.requires.each _ d.below)).1
