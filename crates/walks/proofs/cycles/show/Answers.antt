-- `walks::cycles::show` meets its contract.
use Prim.Native.Nat.{◌-◌, ◌<◌}
use mathlib.Core.Path.{◌∙◌}
use native.Mathlib.Nat.{pos_of_ne-zero}
use native.Mathlib.Omega.{arith}
use lib.ListN.{get_or, length-set}
use Rattle.walks.proofs.cycles.Layering.{Layer}
use Rattle.walks.proofs.cycles.Picks.{picks_start, picks-some, picks-step, picks-end, chosen_is}
use Rattle.walks.proofs.cycles.show.Goals.{After-meet, After-lowest-z}
use Rattle.walks.proofs.cycles.show.Goals as goal

-- the set at the place behind this one
layer-at : (c : After-meet) → Layer c.args.s.now c.args.n c.args.best.at (c.args.best.len - c.loop-i.i) (get_or c.args.sets.now (c.args.best.len - c.loop-i.i) 0)
layer-at c = c.requires.layers (c.args.best.len - c.loop-i.i) (omega (arith, c.loop-i.invariant.is))

-- the lowest number of it is one of the n
small : (c : After-lowest-z) → Layer c.args.s.now c.args.n c.args.best.at (c.args.best.len - c.loop-i.i) (get_or c.args.sets.now (c.args.best.len - c.loop-i.i) 0)
    → c.lowest-z.result < c.args.n
small c layer =
    let a = c.args in
    let l = c.loop-i in
    (chosen_is a.w.now a.s.now a.n a.best.len a.best.at (omega arith) _ l.out l.row l.i _ c.meet.result c.lowest-z.result (omega (arith, length-set a.out.now 0 a.best.at)) (omega arith) layer c.meet.ensures c.lowest-z.ensures l.invariant).0

pub loop-i-init : goal.loop-i-init
loop-i-init c =
    let a = c.args in
    picks_start a.w.now a.s.now a.n a.best.len a.best.at (omega arith) a.out.now (omega arith) (omega arith) c.requires.best.found

pub lowest-z-requires : goal.lowest-z-requires
lowest-z-requires c =
    let a = c.args in
    let l = c.loop-i in
    pos_of_ne-zero (picks-some a.w.now a.s.now a.n a.best.len a.best.at (omega arith) _ l.out l.row l.i _ c.meet.result (layer-at (goal.at.lowest-z-requires c).After-meet) c.meet.ensures l.invariant)

pub overflow_cast-out-in-loop-i : goal.overflow_cast-out-in-loop-i
overflow_cast-out-in-loop-i c =
    omega (arith, small (goal.at.overflow_cast-out-in-loop-i c).After-lowest-z (layer-at (goal.at.overflow_cast-out-in-loop-i c).After-meet))

pub bounds-out-i : goal.bounds-out-i
bounds-out-i c =
    let a = c.args in
    let l = c.loop-i in
    omega (arith, length-set a.out.now 0 a.best.at, l.invariant.same_length)

pub offset_bounds-s-z : goal.offset_bounds-s-z
offset_bounds-s-z c =
    omega (arith, small (goal.at.offset_bounds-s-z c).After-lowest-z (layer-at (goal.at.offset_bounds-s-z c).After-meet))

pub bounds-s-z : goal.bounds-s-z
bounds-s-z c =
    omega (arith, small (goal.at.bounds-s-z c).After-lowest-z (layer-at (goal.at.bounds-s-z c).After-meet))

pub loop-i-preserved : goal.loop-i-preserved
loop-i-preserved c =
    let a = c.args in
    let l = c.loop-i in
    let m = c.meet in
    let z = c.lowest-z in
    picks-step a.w.now a.s.now a.n a.best.len a.best.at (omega arith) _ l.out l.row l.i _ m.result z.result (omega (arith, length-set a.out.now 0 a.best.at)) (omega arith) (layer-at (goal.at.loop-i-preserved c).After-meet) m.ensures z.ensures l.invariant

pub shape_of-out : goal.shape_of-out
shape_of-out c =
    let a = c.args in
    c.loop-i.invariant.same_length ∙ length-set a.out.now 0 a.best.at

pub returns : goal.returns
returns c =
    let a = c.args in
    let p = c.requires in
    let l = c.loop-i in
    picks-end a.w.now a.s.now a.n a.best.len a.best.at (omega arith) p.best.found p.within a.out.now l.out l.row l.i (omega arith) (omega arith) (omega arith) l.invariant
