use mathlib.Core.Path.{sym, ◌∙◌}
use borrow.Author.Tests.{eqb-true, eqb-false}
use native.Mathlib.Omega.{arith}
use Rattle.chain.specs.Edges.{turned}
use Rattle.chain.specs.Index.{named}
use Rattle.search_from.proofs.Answers.{alone_narrow, alone_listed}
use Rattle.search_from.proofs.alone.Goals as goal

pub returns-then-is_empty : goal.returns-then-is_empty
returns-then-is_empty c = λ count edges. alone_narrow (turned 1 (named count edges)) c.args.name c.args.list.now (eqb-true _ _ (sym c.is_empty.ensures ∙ c.if-is_empty.true))

pub returns : goal.returns
returns c = λ count edges. alone_listed (turned 1 (named count edges)) c.args.name c.args.list.now (omega (arith, eqb-false _ _ (sym c.is_empty.ensures ∙ c.if-is_empty.false)))
