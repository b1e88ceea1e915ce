-- `answers::shown_length` meets its contract.
use borrow.Author.Tests.{eq-eqb, ne_eqb}
use Rattle.answers.specs.Answers.{shown_length_lem}
use Rattle.answers.proofs.shown_length.Goals as goal

pub returns-then-a : goal.returns-then-a
unfolding shown_length_lem
returns-then-a c = rw (eq-eqb _ _ c.if-a.true)

pub returns : goal.returns
unfolding shown_length_lem
returns c = rw (ne_eqb _ _ c.if-a.false)
