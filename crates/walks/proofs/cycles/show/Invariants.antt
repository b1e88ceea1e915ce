-- `walks::cycles::show` meets its contract.
use Rattle.walks.proofs.cycles.Picks.{PicksInv}
use Rattle.walks.proofs.cycles.show.Given as goal

abbrev pub invariant-loop-i : goal.invariant-loop-i
invariant-loop-i l = PicksInv l.w l.s l.n l.fn.best.len l.fn.best.at l.initial.out l.out l.row l.i
