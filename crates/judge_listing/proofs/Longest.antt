-- How long the listing of an unfit mapping can be.
use mathlib.Core.List.{List, [], ◌∷◌}
use Prim.Native.Nat.{◌*◌, ◌≤◌}
use native.Mathlib.Omega.{arith}
use lib.ListN.{length, length-append}
use Rattle.tables.specs.declared.MessageRow.{MessageRow}
use Rattle.plan_listing.specs.PlanText.{name_at}
use Rattle.judge_listing.specs.step_lines.StepLine.{line_of_step}
use Rattle.judge_listing.specs.JudgeText.{ShownStep, step_text, step_texts}
use Rattle.plan_listing.specs.Lengths.{ShortNames}
use Rattle.judge_listing.specs.Longest.{LongestUnfit}
use Rattle.judge_listing.proofs.StepLines.{unfit-length}
use Rattle.judge_listing.proofs.step_lines.Lengths.{word-short}

step-short : (rows : List MessageRow) (s : ShownStep) → ShortNames rows → length (step_text rows s) ≤ 62
unfolding name_at step_text line_of_step
step-short rows s h = simp length-append (omega (arith, h s.from, word-short s.word, h s.to))

steps-short : (rows : List MessageRow) (steps : List ShownStep) → ShortNames rows → length (step_texts rows steps) ≤ 62 * length steps
unfolding step_texts
steps-short rows [] h = omega arith
steps-short rows (s ∷ ss) h = omega (arith, length-append (step_text rows s) (step_texts rows ss), step-short rows s h, steps-short rows ss h)

pub longest-unfit : LongestUnfit
longest-unfit rows steps h k = omega (arith, unfit-length rows steps, steps-short rows steps h, k)
