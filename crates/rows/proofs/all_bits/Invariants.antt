-- `rows::all_bits` meets its contract.
use Rattle.rows.proofs.Together.{Together}
use Rattle.rows.proofs.all_bits.Given as goal

abbrev pub invariant-loop-row : goal.invariant-loop-row
invariant-loop-row l = Together 64 l.rows l.n l.all l.row-index
