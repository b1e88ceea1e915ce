-- `walks::heights::write` meets its contract.
use Rattle.walks.proofs.heights.Levels.{WriteInv}
use Rattle.walks.proofs.heights.write.Given as goal

abbrev pub invariant-loop-m : goal.invariant-loop-m
invariant-loop-m l = WriteInv l.sets l.count l.n l.initial.out l.out l.m
