-- `judge_listing::Walk::more_steps` meets its contract.
use Rattle.text.specs.Written.{Pasted}
use Rattle.plan_listing.specs.PlanText.{message_numbers}
use Rattle.judge_listing.specs.JudgeText.{word_in}
use Rattle.judge_listing.proofs.StepLines.{first_lines}
use Rattle.judge_listing.proofs.Walk.more_steps.Given as goal

abbrev pub invariant-loop-written : goal.invariant-loop-written
invariant-loop-written l =
    Pasted (first_lines l.self.rows.now (word_in l.self.waits.now) (message_numbers l.self.cycle.now) l.written) l.start l.initial.out l.out l.at
