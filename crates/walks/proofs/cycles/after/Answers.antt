-- `walks::cycles::after` meets its contract.
use Prim.Native.Nat.{◌<◌}
use native.Mathlib.Nat.{pos_of_ne-zero}
use native.Mathlib.Omega.{arith}
use Rattle.walks.proofs.cycles.Leaving.{after-start, first-in, after-step, after-end}
use Rattle.walks.proofs.cycles.after.Goals as goal

pub loop-left-init : goal.loop-left-init
loop-left-init c = after-start _ _

pub lowest-z-requires : goal.lowest-z-requires
lowest-z-requires c = pos_of_ne-zero c.loop-left-test.true

pub offset_bounds-s-z : goal.offset_bounds-s-z
offset_bounds-s-z c =
    let small : c.lowest-z.result < c.args.n = let l = c.loop-left in c.requires.below c.lowest-z.result (first-in c.args.s.now c.args.set l.r l.left c.lowest-z.result c.lowest-z.ensures.bit l.invariant) in
    omega (arith, small)

pub bounds-s-z : goal.bounds-s-z
bounds-s-z c =
    let small : c.lowest-z.result < c.args.n = let l = c.loop-left in c.requires.below c.lowest-z.result (first-in c.args.s.now c.args.set l.r l.left c.lowest-z.result c.lowest-z.ensures.bit l.invariant) in
    omega (arith, small)

pub without_lowest-left-requires : goal.without_lowest-left-requires
without_lowest-left-requires c = pos_of_ne-zero c.loop-left-test.true

pub loop-left-smaller : goal.loop-left-smaller
loop-left-smaller c =
    let w = c.lowest-z in
    (c.without_lowest-left.ensures.cleared w.result w.ensures).less

pub loop-left-preserved : goal.loop-left-preserved
loop-left-preserved c =
    let a = c.args in
    let l = c.loop-left in
    let w = c.lowest-z in
    let t = c.without_lowest-left in
    after-step a.s.now a.set l.r l.left w.result w.ensures.bit l.invariant c.join-r.result t.result c.join-r.ensures (t.ensures.cleared w.result w.ensures)

pub returns : goal.returns
returns c =
    let a = c.args in
    let l = c.loop-left in
    after-end a.s.now a.n a.set l.r l.left c.all_below.result c.meet.result c.loop-left-test.false c.all_below.ensures c.meet.ensures l.invariant
