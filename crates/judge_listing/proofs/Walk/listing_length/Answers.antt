-- `judge_listing::Walk::listing_length` meets its contract.
use mathlib.Core.Path.{ap}
use lib.ListN.{length, length-map}
use native.Mathlib.Omega.{arith}
use Rattle.tables.specs.Cells.{number as message_number}
use Rattle.plan_listing.specs.PlanText.{message_numbers}
use Rattle.judge_listing.specs.step_lines.StepLine.{named_line}
use Rattle.judge_listing.specs.JudgeText.{word_in}
use Rattle.judge_listing.specs.Places.{walk_steps}
use Rattle.judge_listing.proofs.StepLines.{no_lines, all_lines, next-length, unfit-length}
use Rattle.judge_listing.proofs.Walk.listing_length.Goals as goal

pub loop-counted-init : goal.loop-counted-init
loop-counted-init c =
    let walk = c.args.self.now in
    (omega (arith, ap length (no_lines walk.rows.now (word_in walk.waits.now) (message_numbers walk.cycle.now))), omega arith)

pub loop-counted-preserved : goal.loop-counted-preserved
loop-counted-preserved c =
    let walk = c.args.self.now in
    let long = length-map walk.cycle.now message_number in
    let next = next-length walk.rows.now (word_in walk.waits.now) (message_numbers walk.cycle.now) c.loop-counted.counted (omega (arith, long)) (named_line c.step_at.result) c.step_at.ensures in
    (omega arith, omega arith)

pub returns : goal.returns
returns c =
    let walk = c.args.self.now in
    let long = length-map walk.cycle.now message_number in
    omega (
      arith,
      ap length (all_lines walk.rows.now (word_in walk.waits.now) (message_numbers walk.cycle.now) c.loop-counted.counted (omega (arith, long))),
      unfit-length walk.rows.now (walk_steps walk.waits.now walk.cycle.now),
    )
