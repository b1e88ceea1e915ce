-- `answers::refused` meets its contract.
use mathlib.Core.Path.{refl}
use Rattle.answers.specs.Answers.{refused_at_lem}
use Rattle.answers.proofs.refused.Goals as goal

pub returns : goal.returns
unfolding refused_at_lem
returns c = refl
