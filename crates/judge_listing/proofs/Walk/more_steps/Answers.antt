-- `judge_listing::Walk::more_steps` meets its contract.
use mathlib.Core.Path.{subst}
use mathlib.Core.List.{List}
use Prim.Native.Nat.{ℕ}
use lib.ListN.{length-map}
use native.Mathlib.Omega.{arith}
use Rattle.text.specs.Written.{Pasted}
use Rattle.text.proofs.Written.{part_room}
use Rattle.tables.specs.Cells.{number as message_number}
use Rattle.plan_listing.specs.PlanText.{message_numbers}
use Rattle.judge_listing.specs.step_lines.StepLine.{named_line}
use Rattle.judge_listing.specs.JudgeText.{word_in}
use Rattle.judge_listing.proofs.StepLines.{lines_start, all_lines, line-room, line-pasted}
use Rattle.judge_listing.proofs.Walk.more_steps.Goals as goal

pub loop-written-init : goal.loop-written-init
loop-written-init c =
    let walk = c.args.self.now in
    lines_start walk.rows.now (word_in walk.waits.now) (message_numbers walk.cycle.now) c.args.start c.args.out.now (omega (arith, c.requires))

pub put-at-requires : goal.put-at-requires
put-at-requires c =
    let walk = c.args.self.now in
    let line = named_line c.step_at.result in
    let long = length-map walk.cycle.now message_number in
    part_room line c.loop-written.out c.loop-written.at
    (line-room walk.rows.now (word_in walk.waits.now) (message_numbers walk.cycle.now) c.loop-written.written (omega (arith, long)) line c.step_at.ensures c.args.out.now c.loop-written.out c.args.start c.loop-written.at c.requires c.loop-written.invariant)

pub loop-written-preserved : goal.loop-written-preserved
loop-written-preserved c =
    let walk = c.args.self.now in
    let line = named_line c.step_at.result in
    let long = length-map walk.cycle.now message_number in
    line-pasted walk.rows.now (word_in walk.waits.now) (message_numbers walk.cycle.now) c.loop-written.written (omega (arith, long)) line c.step_at.ensures c.args.out.now c.loop-written.out c.args.start c.loop-written.at c.requires c.loop-written.invariant _ _ c.put-at.ensures

pub returns : goal.returns
returns c =
    let walk = c.args.self.now in
    let long = length-map walk.cycle.now message_number in
    subst (λ (t : List ℕ). Pasted t c.args.start c.args.out.now c.loop-written.out c.loop-written.at)
    (all_lines walk.rows.now (word_in walk.waits.now) (message_numbers walk.cycle.now) c.loop-written.written (omega (arith, long))) c.loop-written.invariant
