-- `rows::gather::gather` meets its contract.
use Rattle.rows.proofs.gather.Gathering.{GatherInv}
use Rattle.rows.proofs.gather.gather.Given as goal

abbrev pub invariant-loop-a : goal.invariant-loop-a
invariant-loop-a l = GatherInv l.n l.given l.sets l.initial.rows l.rows l.a
