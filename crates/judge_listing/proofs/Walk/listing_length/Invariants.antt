-- `judge_listing::Walk::listing_length` meets its contract.
use mathlib.Core.Path.{◌≡◌}
use Prim.Native.Nat.{◌+◌, ◌*◌, ◌≤◌}
use lib.ListN.{length}
use Rattle.plan_listing.specs.PlanText.{message_numbers}
use Rattle.judge_listing.specs.JudgeText.{word_in}
use Rattle.judge_listing.proofs.StepLines.{first_lines}
use Rattle.judge_listing.proofs.Walk.listing_length.Given as goal

abbrev pub invariant-loop-counted : goal.invariant-loop-counted
invariant-loop-counted l =
    (l.n ≡ 17 + length (first_lines l.self.rows.now (word_in l.self.waits.now) (message_numbers l.self.cycle.now) l.counted)) × (l.n ≤ 17 + 62 * l.counted)
