-- `answers::packed` meets its contract.
use borrow.Author.Rules.{rules}
use Rattle.answers.specs.Answers.{packed_answer}
use Rattle.answers.proofs.packed.Goals as goal

pub returns : goal.returns
unfolding packed_answer
returns c = search rules
