-- What `zeveltoren::checked` answers is how the text is refused.
use mathlib.Core.Path.{ap, ◌∙◌}
use Rattle.protocol.specs.whole.Whole.{Reading}
use Rattle.answers.specs.Answers.{refused_at_lem, finished}
use Rattle.zeveltoren.proofs.checked.Goals as goal

pub returns-in-Ok : goal.returns-in-Ok
unfolding refused_at_lem finished
returns-in-Ok c = c.of.ensures ∙ ap (λ (x : Reading). refused_at_lem x.refusal 0) c.in-Ok.ensures

pub returns-in-Err : goal.returns-in-Err
returns-in-Err c = c.of-in-Err.ensures ∙ ap (λ (x : Reading). refused_at_lem x.refusal 0) c.in-Err.ensures
