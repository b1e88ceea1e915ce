-- `waits::steps::steps_of` meets its contract.
use lib.ListN.{replicate}
use Rattle.rows.proofs.FillingRows.{FillingRows}
use Rattle.waits.specs.steps.Steps.{mapping_of_lem}
use Rattle.waits.proofs.steps.Queueing.{IsSteps}
use Rattle.waits.proofs.steps.steps_of.Given as goal

abbrev pub invariant-loop-i : goal.invariant-loop-i
invariant-loop-i l = FillingRows (IsSteps l.waits (mapping_of_lem l.networks) l.stalled l.n) l.n (replicate 64 0) l.steps l.i
