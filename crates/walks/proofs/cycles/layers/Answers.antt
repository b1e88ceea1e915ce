-- `walks::cycles::layers` meets its contract.
use Prim.Native.Nat.{◌+◌, ◌-◌}
use native.Mathlib.Omega.{arith}
use mathlib.Core.Path.{◌≡◌, ◌∙◌}
use lib.ListN.{set, length-set}
use Rattle.rows.proofs.FillingRows.{kept-all, kept_on, kept_store}
use Rattle.walks.proofs.cycles.Layering.{layers-start, layers-step, layers-end}
use Rattle.walks.proofs.cycles.layers.Goals as goal

pub loop-k-init : goal.loop-k-init
loop-k-init c =
    let a = c.args in
    layers-start a.s.now a.n a.best.at a.sets.now c.with_bit-set.result (omega arith) (omega arith) c.with_bit-set.ensures

pub bounds-sets-k : goal.bounds-sets-k
bounds-sets-k c = let a = c.args in omega (arith, c.loop-k.invariant.kept.long, length-set a.sets.now 0 c.with_bit-set.result)

pub loop-k-preserved : goal.loop-k-preserved
loop-k-preserved c =
    let a = c.args in
    let l = c.loop-k in
    let v = c.with_bit-set.result in
    let e : l.k + 1 - 1 ≡ l.k = omega arith in
    rw e (layers-step a.s.now a.n a.best.at (set a.sets.now 0 v) l.sets l.set (l.k - 1) c.into-set.result l.k (omega arith) (omega arith) (omega (arith, length-set a.sets.now 0 v)) (omega arith) c.into-set.ensures l.invariant)

pub shape_of-sets : goal.shape_of-sets
shape_of-sets c = let a = c.args in c.loop-k.invariant.kept.long ∙ length-set a.sets.now 0 c.with_bit-set.result

pub returns : goal.returns
returns c =
    let a = c.args in
    let l = c.loop-k in
    let first = set a.sets.now 0 c.with_bit-set.result in
    record { layers = layers-end a.s.now a.n a.best.at first l.sets l.set (l.k - 1) a.best.len (omega arith) l.invariant; kept_from = kept_on a.n a.sets.now first l.sets (kept_store a.n a.sets.now a.sets.now 0 _ (omega arith) (kept-all a.n a.sets.now)) l.invariant.kept }
