-- `answers::listed` meets its contract.
use mathlib.Core.Path.{refl}
use Rattle.answers.specs.Answers.{finished}
use Rattle.answers.proofs.listed.Goals as goal

pub returns : goal.returns
unfolding finished
returns c = refl
