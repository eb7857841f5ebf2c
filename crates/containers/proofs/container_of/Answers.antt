use native.Mathlib.Omega.{arith}
use Rattle.containers.proofs.Keeping.{known_is, known_put}
use Rattle.containers.proofs.container_of.Goals as goal

pub returns-in-Some-known : goal.returns-in-Some-known
returns-in-Some-known c = (
  known_is c.args.definitions.now.table c.requires.2 _ _ c.in-Some.ensures.0 (omega (arith, c.in-Some.ensures.1, c.args.definitions.now.table.count)) c.in-Some-known.is,
  c.requires.2,
)

pub returns : goal.returns
returns c =
    let e = c.answer_for-answer.ensures in
    (e, known_put c.args.definitions.now.table c.requires.2 _ _ c.in-Some.ensures.0 (omega (arith, c.in-Some.ensures.1, c.args.definitions.now.table.count)) e)
