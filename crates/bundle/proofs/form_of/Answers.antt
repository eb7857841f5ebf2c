-- `bundle::form_of` meets its contract: each arm is a row of the table, or lies between two rows.
use native.Mathlib.Omega.{arith}
use mathlib.Core.Logic.{⊎_elim}
use mathlib.Core.Path.{sym}
use lib.Dec.{lit<}
use Rattle.meaning.specs.Kinds.{kinds}
use Rattle.bundle.specs.View.{expr_form_meant, type_form_meant, form_meant}
use Rattle.meaning.proofs.KindTable.{hit, gap, below, side}
use Rattle.bundle.proofs.Widths.{index_below, index_fits}
use Rattle.bundle.proofs.Forms.{kind_member}
use Rattle.bundle.proofs.form_of.Goals as goal

pub overflow_cast-result : goal.overflow_cast-result
overflow_cast-result c = index_fits (omega arith)

pub returns-in-64-clause-form : goal.returns-in-64-clause-form
unfolding form_meant type_form_meant
returns-in-64-clause-form c = sym (hit kinds 1 7 _ tt (lit< tt) (omega arith) (omega arith))

pub returns-in-65-clause-form : goal.returns-in-65-clause-form
unfolding form_meant type_form_meant
returns-in-65-clause-form c = sym (hit kinds 1 8 _ tt (lit< tt) (omega arith) (omega arith))

pub returns-in-66-clause-form : goal.returns-in-66-clause-form
unfolding form_meant type_form_meant
returns-in-66-clause-form c = sym (hit kinds 1 9 _ tt (lit< tt) (omega arith) (omega arith))

pub returns-in-67-clause-form : goal.returns-in-67-clause-form
unfolding form_meant type_form_meant
returns-in-67-clause-form c = sym (hit kinds 1 10 _ tt (lit< tt) (omega arith) (omega arith))

pub returns-in-68-clause-form : goal.returns-in-68-clause-form
unfolding form_meant type_form_meant
returns-in-68-clause-form c = sym (hit kinds 1 11 _ tt (lit< tt) (omega arith) (omega arith))

pub returns-in-69-clause-form : goal.returns-in-69-clause-form
unfolding form_meant type_form_meant
returns-in-69-clause-form c = sym (hit kinds 1 12 _ tt (lit< tt) (omega arith) (omega arith))

pub returns-in-1-to-8-clause-form : goal.returns-in-1-to-8-clause-form
unfolding form_meant expr_form_meant
returns-in-1-to-8-clause-form c = sym (hit kinds 1 0 _ tt (lit< tt) (omega arith) (omega arith))

pub returns-in-9-to-12-clause-form : goal.returns-in-9-to-12-clause-form
unfolding form_meant expr_form_meant
returns-in-9-to-12-clause-form c = sym (hit kinds 1 1 _ tt (lit< tt) (omega arith) (omega arith))

pub returns-then-kind-eq13-clause-form : goal.returns-then-kind-eq13-clause-form
unfolding form_meant expr_form_meant
returns-then-kind-eq13-clause-form c = sym (hit kinds 1 2 _ tt (lit< tt) (omega arith) (omega arith))

pub returns-else-kind-eq13-clause-form : goal.returns-else-kind-eq13-clause-form
unfolding form_meant expr_form_meant
returns-else-kind-eq13-clause-form c = sym (hit kinds 1 3 _ tt (lit< tt) (omega arith) (omega arith))

pub returns-in-16-to-35-clause-form : goal.returns-in-16-to-35-clause-form
unfolding form_meant expr_form_meant
returns-in-16-to-35-clause-form c = sym (hit kinds 1 4 _ tt (lit< tt) (omega arith) (omega arith))

pub returns-in-36-to-39-clause-form : goal.returns-in-36-to-39-clause-form
unfolding form_meant expr_form_meant
returns-in-36-to-39-clause-form c = sym (hit kinds 1 5 _ tt (lit< tt) (omega arith) (omega arith))

pub returns-in-48-to-59-clause-form : goal.returns-in-48-to-59-clause-form
unfolding form_meant type_form_meant
returns-in-48-to-59-clause-form c = sym (hit kinds 1 6 _ tt (lit< tt) (omega arith) (omega arith))

pub returns-in-80-to-81-clause-form : goal.returns-in-80-to-81-clause-form
unfolding form_meant
returns-in-80-to-81-clause-form c = kind_member _ c.bare_member.ensures

pub returns-in-82-to-83-clause-form : goal.returns-in-82-to-83-clause-form
unfolding form_meant
returns-in-82-to-83-clause-form c = kind_member _ c.valued_member.ensures

pub returns-then-kind-eq96-clause-form : goal.returns-then-kind-eq96-clause-form
unfolding form_meant
returns-then-kind-eq96-clause-form c = sym (hit kinds 1 15 _ tt (lit< tt) (omega arith) (omega arith))

pub returns-then-kind-eq97-clause-form : goal.returns-then-kind-eq97-clause-form
unfolding form_meant
returns-then-kind-eq97-clause-form c = sym (hit kinds 1 16 _ tt (lit< tt) (omega arith) (omega arith))

pub returns-else-kind-eq97-clause-form : goal.returns-else-kind-eq97-clause-form
unfolding form_meant
returns-else-kind-eq97-clause-form c = sym (hit kinds 1 17 _ tt (lit< tt) (omega arith) (omega arith))

pub returns-in_default-clause-form : goal.returns-in_default-clause-form
unfolding form_meant
returns-in_default-clause-form c = sym (below kinds 1 _ tt (omega arith))

pub returns-in_default-2-clause-form : goal.returns-in_default-2-clause-form
unfolding form_meant
returns-in_default-2-clause-form c = sym (gap kinds 1 3 16 _ tt (lit< tt) tt (omega arith) (omega arith))

pub returns-in_default-3-clause-form : goal.returns-in_default-3-clause-form
unfolding form_meant
returns-in_default-3-clause-form c = sym (gap kinds 1 5 48 _ tt (lit< tt) tt (omega arith) (omega arith))

pub returns-in_default-4-clause-form : goal.returns-in_default-4-clause-form
unfolding form_meant
returns-in_default-4-clause-form c =
    sym (⊎_elim (λ p. gap kinds 1 6 64 _ tt (lit< tt) tt (omega arith) p)
    (λ p. gap kinds 1 12 80 _ tt (lit< tt) tt (omega (arith, p)) (omega arith)) (side _ 0x40))

pub returns-in_default-5-clause-form : goal.returns-in_default-5-clause-form
unfolding form_meant
returns-in_default-5-clause-form c = sym (gap kinds 1 14 96 _ tt (lit< tt) tt (omega arith) (omega arith))

pub returns-in_default-6-clause-form : goal.returns-in_default-6-clause-form
unfolding form_meant
returns-in_default-6-clause-form c = sym (gap kinds 1 17 256 _ tt (lit< tt) tt (omega arith) (omega arith))

pub bounds-kind : goal.bounds-kind
bounds-kind c = index_below (omega arith)
