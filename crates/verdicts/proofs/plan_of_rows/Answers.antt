-- `verdicts::plan_of_rows` meets its contract.
use Rattle.verdicts.proofs.Planning.{is_cycle, plan-three, plan-two}
use Rattle.verdicts.proofs.plan_of_rows.Goals as goal

pub returns-in-Some : goal.returns-in-Some
returns-in-Some c =
    let h = c.heights-found in
    plan-three c.args.waits.now c.args.n c.requires.1 h.new.out h.result c.in-Some.count c.in-Some.is h.ensures.heights c.networks_of.result c.networks_of.ensures

pub unwrap-length-requires : goal.unwrap-length-requires
unwrap-length-requires c =
    let h = c.heights-found in
    let y = c.cycle in
    is_cycle c.args.waits.now c.args.n _ h.new.out y.new.out _ h.result y.result c.in_default.is h.ensures.heights y.ensures.cycle

pub returns : goal.returns
returns c =
    let y = c.cycle in
    let u = c.unwrap-length in
    plan-two c.args.waits.now c.args.n c.requires.1 y.new.out y.result u.result u.ensures y.ensures.cycle c.messages_of.result c.messages_of.ensures
