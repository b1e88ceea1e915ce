-- `waits::steps::steps_of` meets its contract.
use native.Mathlib.Omega.{arith}
use lib.ListN.{replicate}
use Rattle.rows.proofs.FillingRows.{fill_start, fill_step}
use Rattle.waits.specs.steps.Steps.{mapping_of_lem}
use Rattle.waits.proofs.steps.Queueing.{IsSteps, steps-row, steps-end}
use Rattle.waits.proofs.steps.steps_of.Goals as goal

pub loop-i-init : goal.loop-i-init
loop-i-init c =
    let a = c.args in
    fill_start (IsSteps a.waits.now (mapping_of_lem a.networks.now) c.all_bits-stalled.result a.n) a.n (replicate 64 0)

pub queues_row-requires : goal.queues_row-requires
queues_row-requires c = (c.requires, omega arith)

pub loop-i-preserved : goal.loop-i-preserved
loop-i-preserved c =
    let a = c.args in
    let d = c.all_bits-stalled.result in
    let l = c.loop-i in
    let q = c.queues_row in
    fill_step (IsSteps a.waits.now (mapping_of_lem a.networks.now) d a.n) a.n (replicate 64 0) l.steps l.i c.join.result c.requires (omega arith)
    (steps-row a.waits.now (mapping_of_lem a.networks.now) d a.n l.i q.result c.join.result q.ensures c.join.ensures) l.invariant

pub returns : goal.returns
returns c =
    let a = c.args in
    let d = c.all_bits-stalled in
    let l = c.loop-i in
    steps-end 64 a.waits.now a.stalls.now (mapping_of_lem a.networks.now) d.result a.n l.steps l.i (omega arith) d.ensures l.invariant
