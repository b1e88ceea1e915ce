-- `relations::plans::plan_rows` meets its contract.
use Rattle.relations.proofs.plans.Plans.{ranked, is_cycle}
use Rattle.relations.proofs.plans.plan_rows.Goals as goal

pub unwrap-length-requires : goal.unwrap-length-requires
unwrap-length-requires c =
    let a = c.args in
    let h = c.heights-networks in
    is_cycle a.n a.waits.now a.out.now h.new.out c.cycle.new.out h.result c.cycle.result c.in-None.is h.ensures.heights c.cycle.ensures.cycle

pub returns-in-Some-clause-plan : goal.returns-in-Some-clause-plan
returns-in-Some-clause-plan c =
    let a = c.args in
    let h = c.heights-networks in
    let p = c.pairs-pairs in
    rw c.in-Some.is (ranked a.n a.waits.now a.out.now c.requires.4 p.result p.ensures a.joins h.new.out h.result c.in-Some.field-0 c.in-Some.is h.ensures.heights)
