-- `waits::pairs` meets its contract.
use Rattle.waits.proofs.Waiting.{PairsInv}
use Rattle.waits.proofs.pairs.Given as goal

abbrev pub invariant-loop-row : goal.invariant-loop-row
invariant-loop-row l = PairsInv 64 l.n l.rows l.sum l.row-index
