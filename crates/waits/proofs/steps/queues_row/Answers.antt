-- `waits::steps::queues_row` meets its contract.
use native.Mathlib.Omega.{arith}
use Rattle.waits.specs.steps.Steps.{mapping_of_lem}
use Rattle.waits.proofs.steps.Queueing.{queueing-none, queueing-more, queueing-all}
use Rattle.waits.proofs.steps.queues_row.Goals as goal

pub loop-i-init : goal.loop-i-init
loop-i-init c = (omega arith, queueing-none (mapping_of_lem c.args.networks.now) c.args.stalled c.args.m.0)

pub with_behind-row-requires : goal.with_behind-row-requires
with_behind-row-requires c = (omega arith, omega arith)

pub loop-i-preserved : goal.loop-i-preserved
loop-i-preserved c =
    let a = c.args in
    let l = c.loop-i in
    (omega arith, queueing-more (mapping_of_lem a.networks.now) a.stalled a.m.0 l.i l.row c.with_behind-row.result c.with_behind-row.ensures l.invariant.1)

pub returns : goal.returns
returns c =
    let a = c.args in
    let l = c.loop-i in
    queueing-all (mapping_of_lem a.networks.now) a.stalled a.m.0 a.n l.i l.row (omega (arith, l.invariant.0)) l.invariant.1
