-- `walks::heights::rounds` meets its contract.
use Rattle.walks.proofs.heights.Levels.{RoundsInv}
use Rattle.walks.proofs.heights.rounds.Given as goal

abbrev pub invariant-loop-k : goal.invariant-loop-k
invariant-loop-k l = RoundsInv l.w l.n l.initial.sets l.sets l.set l.k
