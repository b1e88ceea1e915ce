-- `walks::cycles::shortest` meets its contract.
use Prim.Native.Nat.{◌-◌}
use Rattle.walks.proofs.cycles.Opening.{ShortInv}
use Rattle.walks.proofs.cycles.shortest.Given as goal

abbrev pub invariant-loop-k : goal.invariant-loop-k
invariant-loop-k l = ShortInv l.w l.s l.n l.x l.most l.set (l.k - 1)
