-- `walks::heights::staying` meets its contract.
use Prim.Native.Nat.{◌<◌}
use native.Mathlib.Nat.{pos_of_ne-zero}
use native.Mathlib.Omega.{arith}
use Rattle.walks.proofs.heights.Levels.{staying-start, staying-yes, staying-no, staying-end}
use Rattle.walks.proofs.heights.staying.Goals as goal
use Rattle.walks.proofs.heights.staying.Goals.{then-meet-ne0, else-meet-ne0}

pub loop-left-init : goal.loop-left-init
loop-left-init c = staying-start _ _

pub lowest-y-requires : goal.lowest-y-requires
lowest-y-requires c = pos_of_ne-zero c.loop-left-test.true

pub offset_bounds-w-y : goal.offset_bounds-w-y
offset_bounds-w-y c =
    let small : c.lowest-y.result < c.args.n = c.requires.2 c.lowest-y.result (c.loop-left.invariant.among c.lowest-y.result c.lowest-y.ensures.bit) in
    omega (arith, small)

pub bounds-w-y : goal.bounds-w-y
bounds-w-y c =
    let small : c.lowest-y.result < c.args.n = c.requires.2 c.lowest-y.result (c.loop-left.invariant.among c.lowest-y.result c.lowest-y.ensures.bit) in
    omega (arith, small)

pub with_bit-r-requires : goal.with_bit-r-requires
with_bit-r-requires c = c.lowest-y.ensures.below

pub without_lowest-left-requires : goal.without_lowest-left-requires
without_lowest-left-requires c = pos_of_ne-zero c.loop-left-test.true

pub loop-left-smaller : goal.loop-left-smaller
loop-left-smaller c = let y = c.lowest-y in (c.without_lowest-left.ensures.cleared y.result y.ensures).less

pub loop-left-preserved : goal.loop-left-preserved
loop-left-preserved c =
    let a = c.args in
    let l = c.loop-left in
    let y = c.lowest-y in
    let m = c.meet in
    let t = c.without_lowest-left in
    let gone = t.ensures.cleared y.result y.ensures in
    elim c.if-meet-ne0.branch [
      | then-meet-ne0 u ↦ rw u.r-is (staying-yes a.w.now a.set l.r l.left y.result t.result m.result y.ensures.bit gone m.ensures l.invariant u.with_bit-r.result u.if-meet-ne0.true u.with_bit-r.ensures)
      | else-meet-ne0 u ↦ rw u.r-is (staying-no a.w.now a.set l.r l.left y.result t.result m.result y.ensures.bit gone m.ensures l.invariant u.if-meet-ne0.false)
    ]

pub returns : goal.returns
returns c =
    let a = c.args in
    let l = c.loop-left in
    staying-end a.w.now a.set l.r l.left c.loop-left-test.false l.invariant
