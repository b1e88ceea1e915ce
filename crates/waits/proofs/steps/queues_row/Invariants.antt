-- `waits::steps::queues_row` meets its contract.
use Prim.Native.Nat.{◌≤◌}
use Rattle.waits.specs.steps.Steps.{mapping_of_lem}
use Rattle.waits.proofs.steps.Queueing.{Queueing}
use Rattle.waits.proofs.steps.queues_row.Given as goal

abbrev pub invariant-loop-i : goal.invariant-loop-i
invariant-loop-i l = (l.i ≤ l.n) × Queueing (mapping_of_lem l.networks) l.stalled l.m.0 l.i l.row
