-- `walks::cycles::after` meets its contract.
use Rattle.walks.proofs.cycles.Leaving.{AfterInv}
use Rattle.walks.proofs.cycles.after.Given as goal

abbrev pub invariant-loop-left : goal.invariant-loop-left
invariant-loop-left l = AfterInv l.s l.set l.r l.left

abbrev pub decreases-loop-left : goal.decreases-loop-left
decreases-loop-left l = l.left
