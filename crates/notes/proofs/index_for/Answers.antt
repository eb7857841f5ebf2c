use mathlib.Core.Path.{sym, ap}
use Rattle.std.specs.Prelude.{None}
use Rattle.field_index.specs.Noted.{index_shown}
use Rattle.fields.proofs.Lookups.{defined, undefined}
use Rattle.field_index.proofs.Order.{noted_there}
use Rattle.notes.proofs.Indices.{index_other, index_nowhere, index_found}
use Rattle.notes.proofs.index_for.Goals as goal

pub returns-in_err-field : goal.returns-in_err-field
returns-in_err-field c = rw c.from_residual.ensures (index_other _ _ c.in_err-field.ensures, tt)

pub returns-in_err-i : goal.returns-in_err-i
returns-in_err-i c = rw c.from_residual-in_err-i.ensures (index_nowhere _ _ c.requires.1 (undefined c.args.definitions.now.table _ c.in_err-i.ensures), tt)

pub indices_of-requires : goal.indices_of-requires
indices_of-requires c =
    let d = defined c.args.definitions.now.table c.in_ok-i.ensures in
    (noted_there c.args.definitions.now.table c.requires.2 d.below, (_, c.requires.2.each _ d.below))

pub returns-in_err-indices : goal.returns-in_err-indices
returns-in_err-indices c =
    let d = defined c.args.definitions.now.table c.in_ok-i.ensures in
    let e = c.in_err-indices.ensures.of _ (c.requires.2.each _ d.below) in
    rw c.from_residual-in_err-indices.ensures (index_found _ _ c.requires.1 d c.in_ok-field.ensures {r = None} (ap index_shown (sym e.0)), tt)

pub returns : goal.returns
returns c =
    let d = defined c.args.definitions.now.table c.in_ok-i.ensures in
    let e = ap index_shown (sym (c.in_ok-indices.ensures.of _ (c.requires.2.each _ d.below)).0) in
    (index_found _ _ c.requires.1 d c.in_ok-field.ensures e, c.in_ok-indices.ensures.small)
