-- `walks::heights::rounds` meets its contract.
use mathlib.Core.Path.{◌∙◌}
use lib.ListN.{length-set}
use native.Mathlib.Omega.{arith}
use Rattle.walks.proofs.heights.Levels.{are-below, rounds-start, rounds-kept, rounds-stuck, rounds-end, rounds-step, rounds-full}
use Rattle.walks.proofs.heights.rounds.Goals as goal

pub loop-k-init : goal.loop-k-init
loop-k-init c = let a = c.args in rounds-start a.w.now a.n a.sets.now c.all_below-set.result (omega arith) c.all_below-set.ensures

pub bounds-sets-k : goal.bounds-sets-k
bounds-sets-k c = omega (arith, c.loop-k.invariant.kept.long)

pub staying-next-requires : goal.staying-next-requires
staying-next-requires c =
    let a = c.args in
    let l = c.loop-k in
    (omega arith, omega arith, are-below a.w.now a.n l.set l.k l.invariant.now-is)

pub shape_of-sets-then-next-eq0 : goal.shape_of-sets-then-next-eq0
shape_of-sets-then-next-eq0 c = let l = c.loop-k in length-set l.sets l.k l.set ∙ l.invariant.kept.long

pub returns-then-next-eq0 : goal.returns-then-next-eq0
returns-then-next-eq0 c =
    let a = c.args in
    let l = c.loop-k in
    let i = c.staying-next in
    record { rounds = rounds-end a.w.now a.n a.sets.now l.sets l.set l.k i.result (omega arith) (omega arith) l.invariant i.ensures c.if-next-eq0.true; kept_from = rounds-kept a.w.now a.n a.sets.now l.sets l.set l.k i.result (omega arith) (omega arith) l.invariant i.ensures }

pub shape_of-sets-then-next-set : goal.shape_of-sets-then-next-set
shape_of-sets-then-next-set c = let l = c.loop-k in length-set l.sets l.k l.set ∙ l.invariant.kept.long

pub returns-then-next-set : goal.returns-then-next-set
returns-then-next-set c =
    let a = c.args in
    let l = c.loop-k in
    let i = c.staying-next in
    record { rounds = rounds-stuck a.w.now a.n a.sets.now l.sets l.set l.k i.result (omega arith) (omega arith) l.invariant i.ensures c.if-next-set.true; kept_from = rounds-kept a.w.now a.n a.sets.now l.sets l.set l.k i.result (omega arith) (omega arith) l.invariant i.ensures }

pub loop-k-preserved : goal.loop-k-preserved
loop-k-preserved c =
    let a = c.args in
    let l = c.loop-k in
    let i = c.staying-next in
    rounds-step a.w.now a.n a.sets.now l.sets l.set l.k i.result (omega arith) (omega arith) l.invariant i.ensures c.if-next-eq0.false

pub shape_of-sets : goal.shape_of-sets
shape_of-sets c = c.loop-k.invariant.kept.long

pub returns : goal.returns
returns c =
    let a = c.args in
    let l = c.loop-k in
    record { rounds = rounds-full a.w.now a.n a.sets.now l.sets l.set l.k (omega arith) l.invariant; kept_from = l.invariant.kept }
