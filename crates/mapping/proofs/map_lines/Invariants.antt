-- `mapping::map_lines` meets its contract.
use Prim.Native.Nat.{◌-◌}
use lib.ListN.{length}
use Rattle.mapping.proofs.ReadLaws.{Going}
use Rattle.mapping.proofs.map_lines.Given as goal

abbrev pub invariant-loop-at : goal.invariant-loop-at
invariant-loop-at l = Going l.header.most l.text l.messages l.at l.i l.networks

abbrev pub decreases-loop-at : goal.decreases-loop-at
decreases-loop-at l = length l.text - l.at
