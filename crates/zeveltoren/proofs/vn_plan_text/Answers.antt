-- Every number of the answer of `zeveltoren::vn_plan_text` has its place in the packed one.
use mathlib.Core.Path.{ap, ◌∙◌}
use Rattle.answers.specs.Answers.{packed_answer}
use Rattle.plan.proofs.PlanLongest.{plan-small}
use Rattle.zeveltoren.proofs.vn_plan_text.Goals as goal

pub packed-requires : goal.packed-requires
packed-requires c = rw c.of.ensures (plan-small _ _ _ _ c.plan-planned.ensures)

pub returns : goal.returns
returns c = record { answer = _; call = c.plan-planned.ensures; is = c.packed.ensures ∙ ap packed_answer c.of.ensures }
