-- `plan_listing::cycle::NamedCycle::names_length` meets its contract.
use mathlib.Core.Path.{refl, ap}
use lib.ListN.{length}
use native.Mathlib.Omega.{arith}
use Rattle.plan_listing.specs.PlanText.{names_text, first_messages}
use Rattle.plan_listing.proofs.Lines.{names-longer, names-all, row-here, no_step}
use Rattle.plan_listing.proofs.cycle.NamedCycle.names_length.Goals as goal

pub loop-message-init : goal.loop-message-init
unfolding names_text first_messages
loop-message-init c = record { exact = refl; few = omega arith }

pub offset_bounds-self-index : goal.offset_bounds-self-index
offset_bounds-self-index c =
    let shown = c.args.self.now in
    omega (arith, c.index.ensures, row-here no_step shown.rows.now shown.cycle.now c.loop-message.message-index shown.have_rows (omega arith), shown.have_rows.few_rows)

pub bounds-self-index : goal.bounds-self-index
bounds-self-index c =
    let shown = c.args.self.now in
    omega (arith, c.index.ensures, row-here no_step shown.rows.now shown.cycle.now c.loop-message.message-index shown.have_rows (omega arith))

pub loop-message-preserved : goal.loop-message-preserved
loop-message-preserved c =
    let shown = c.args.self.now in
    let i = c.loop-message.message-index in
    let below = row-here no_step shown.rows.now shown.cycle.now i shown.have_rows (omega arith) in
    names-longer no_step shown.rows.now _ shown.cycle.now i (omega arith) _ c.index.ensures (omega (arith, c.index.ensures, below))
    _ _ c.loop-message.invariant c.tabbed_length-total.ensures

pub returns : goal.returns
returns c =
    let shown = c.args.self.now in
    let all = names-all shown.rows.now shown.cycle.now c.loop-message.message-index (omega arith) in
    record {
      exact = omega (arith, c.loop-message.invariant.exact, ap length all);
      few = omega (arith, c.loop-message.invariant.few, shown.have_rows.few);
    }
