-- `rows::closure::round` meets its contract.
use Rattle.rows.proofs.closure.Warshall.{RoundInv}
use Rattle.rows.proofs.closure.round.Given as goal

abbrev pub invariant-loop-row : goal.invariant-loop-row
invariant-loop-row l = RoundInv l.initial.row-items l.n l.k l.own l.row-items l.row-index l.count
