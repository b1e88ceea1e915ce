-- `walks::cycles::best_start` meets its contract.
use Rattle.walks.proofs.cycles.Starts.{StartsInv}
use Rattle.walks.proofs.cycles.best_start.Given as goal

abbrev pub invariant-loop-x : goal.invariant-loop-x
invariant-loop-x l = StartsInv l.w l.s l.n l.best l.most l.x
