-- `walks::cycles::layers` meets its contract.
use Prim.Native.Nat.{◌-◌}
use Rattle.walks.proofs.cycles.Layering.{LayersInv}
use Rattle.walks.proofs.cycles.layers.Given as goal

abbrev pub invariant-loop-k : goal.invariant-loop-k
invariant-loop-k l = LayersInv l.s l.n l.fn.best.at l.initial.sets l.sets l.set (l.k - 1)
