-- `rows::closure::joined` meets its contract.
use Rattle.rows.proofs.Told.{told-false}
use Rattle.rows.proofs.closure.Warshall.{joined-yes, joined-no, counted-yes, counted-no}
use Rattle.rows.proofs.closure.joined.Goals as goal

pub returns-then-has : goal.returns-then-has
returns-then-has c =
    let a = c.args in
    let b = c.has.ensures.0 c.if-has.true in
    record { joined = joined-yes a.row a.other a.k c.join.result b c.join.ensures; counted = counted-yes a.row a.k a.count b }

pub returns-else-has : goal.returns-else-has
returns-else-has c =
    let a = c.args in
    let g = told-false _ _ c.has.ensures c.if-has.false in
    record { joined = joined-no a.row a.other a.k g; counted = counted-no a.row a.k a.count g }
