-- Every number of the answer of `zeveltoren::vn_judge_texts` has its place in the packed one.
use mathlib.Core.Path.{ap, ◌∙◌}
use Rattle.answers.specs.Answers.{packed_answer}
use Rattle.judge.proofs.JudgeLongest.{judge-small}
use Rattle.zeveltoren.proofs.vn_judge_texts.Goals as goal

pub packed-requires : goal.packed-requires
packed-requires c = rw c.of.ensures (judge-small _ _ _ _ _ c.judge-judged.ensures)

pub returns : goal.returns
returns c = record { answer = _; call = c.judge-judged.ensures; is = c.packed.ensures ∙ ap packed_answer c.of.ensures }
