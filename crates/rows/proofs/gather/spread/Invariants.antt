-- `rows::gather::spread` meets its contract.
use Rattle.rows.proofs.gather.Gathering.{SpreadInv}
use Rattle.rows.proofs.gather.spread.Given as goal

abbrev pub invariant-loop-left : goal.invariant-loop-left
invariant-loop-left l = SpreadInv l.row l.set l.initial.rows l.rows l.left

abbrev pub decreases-loop-left : goal.decreases-loop-left
decreases-loop-left l = l.left
