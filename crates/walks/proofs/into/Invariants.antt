-- `walks::into` meets its contract.
use Rattle.walks.proofs.Sets.{IntoInv}
use Rattle.walks.proofs.into.Given as goal

abbrev pub invariant-loop-y : goal.invariant-loop-y
invariant-loop-y l = IntoInv l.s l.n l.set l.r l.y
