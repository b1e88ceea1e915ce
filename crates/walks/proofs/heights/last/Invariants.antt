-- `walks::heights::last` meets its contract.
use Prim.Native.Nat.{◌+◌}
use mathlib.Core.Path.{◌≡◌}
use Rattle.walks.proofs.heights.Levels.{LastInv}
use Rattle.walks.proofs.heights.last.Given as goal

abbrev pub invariant-loop-next : goal.invariant-loop-next
invariant-loop-next l = LastInv l.sets l.count l.m l.h × (l.next ≡ l.h + 1)
