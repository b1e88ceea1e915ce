-- `rows::gather::spread` meets its contract.
use native.Mathlib.Omega.{arith}
use native.Mathlib.Nat.{pos_of_ne-zero}
use Rattle.rows.proofs.gather.Gathering.{spread-start, spread-step, spread_end, spread-below}
use Rattle.rows.proofs.gather.spread.Goals as goal

pub loop-left-init : goal.loop-left-init
loop-left-init c = let a = c.args in spread-start a.row a.set a.rows.now

pub lowest-b-requires : goal.lowest-b-requires
lowest-b-requires c = pos_of_ne-zero c.loop-left-test.true

pub offset_bounds-rows-b : goal.offset_bounds-rows-b
offset_bounds-rows-b c =
    let l = c.loop-left in
    omega (arith, spread-below c.args.row c.args.set c.args.rows.now l.rows l.left c.lowest-b.result c.requires c.lowest-b.ensures.bit l.invariant)

pub bounds-rows-b : goal.bounds-rows-b
bounds-rows-b c =
    let l = c.loop-left in
    spread-below c.args.row c.args.set c.args.rows.now l.rows l.left c.lowest-b.result c.requires c.lowest-b.ensures.bit l.invariant

pub offset_bounds-rows-b-in-loop-left : goal.offset_bounds-rows-b-in-loop-left
offset_bounds-rows-b-in-loop-left c =
    let l = c.loop-left in
    omega (arith, spread-below c.args.row c.args.set c.args.rows.now l.rows l.left c.lowest-b.result c.requires c.lowest-b.ensures.bit l.invariant)

pub bounds-rows-b-in-loop-left : goal.bounds-rows-b-in-loop-left
bounds-rows-b-in-loop-left c =
    let l = c.loop-left in
    spread-below c.args.row c.args.set c.args.rows.now l.rows l.left c.lowest-b.result c.requires c.lowest-b.ensures.bit l.invariant

pub without_lowest-left-requires : goal.without_lowest-left-requires
without_lowest-left-requires c = pos_of_ne-zero c.loop-left-test.true

pub loop-left-smaller : goal.loop-left-smaller
loop-left-smaller c = let w = c.lowest-b in (c.without_lowest-left.ensures.cleared w.result w.ensures).less

pub loop-left-preserved : goal.loop-left-preserved
loop-left-preserved c =
    let l = c.loop-left in
    spread-step c.args.row c.args.set c.args.rows.now l.rows l.left c.lowest-b.result c.join.result c.without_lowest-left.result c.requires c.lowest-b.ensures.bit c.join.ensures (c.without_lowest-left.ensures.cleared c.lowest-b.result c.lowest-b.ensures) l.invariant

pub shape_of-rows : goal.shape_of-rows
shape_of-rows c = c.loop-left.invariant.long

pub returns : goal.returns
returns c =
    let l = c.loop-left in
    let a = c.args in
    spread_end a.row a.set a.rows.now l.rows l.left c.loop-left-test.false l.invariant
