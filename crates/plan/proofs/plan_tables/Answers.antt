-- `plan::plan_tables` meets its contract.
use borrow.Author.Rules.{rules}
use Rattle.plan_listing.specs.PlanText.{first_messages, first_networks}
use Rattle.plan_listing.proofs.Lines.{have-rows}
use Rattle.plan.proofs.PlanLaws.{planned-three, planned-two}
use Rattle.plan.proofs.plan_tables.Goals as goal

pub returns-in-Ranked : goal.returns-in-Ranked
unfolding first_networks
returns-in-Ranked c = planned-three c.args.t.now c.in-Ranked.count c.in-Ranked.networks c.in-Ranked.ensures _ _ _ (rw c.messages.ensures.rows at c.map_listing.ensures)

pub cycle_listing-requires : goal.cycle_listing-requires
cycle_listing-requires c =
    let s = c.in-Cyclic.ensures.stored in
    have-rows c.args.t.now.messages c.in-Cyclic.cycle.length c.in-Cyclic.cycle.messages (search rules) s.few s.messages

pub returns-in-Cyclic : goal.returns-in-Cyclic
unfolding first_messages
returns-in-Cyclic c = planned-two c.args.t.now c.in-Cyclic.cycle c.in-Cyclic.ensures _ _ _ c.cycle_listing.ensures
