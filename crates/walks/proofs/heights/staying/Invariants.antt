-- `walks::heights::staying` meets its contract.
use Rattle.walks.proofs.heights.Levels.{StayingInv}
use Rattle.walks.proofs.heights.staying.Given as goal

abbrev pub invariant-loop-left : goal.invariant-loop-left
invariant-loop-left l = StayingInv l.w l.set l.r l.left

abbrev pub decreases-loop-left : goal.decreases-loop-left
decreases-loop-left l = l.left
