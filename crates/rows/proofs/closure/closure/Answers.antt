-- `rows::closure::closure` meets its contract.
use native.Mathlib.Omega.{arith}
use Rattle.rows.proofs.closure.Warshall.{close-start, close-step, close-end, close-small, holders-few, held_more}
use Rattle.rows.proofs.closure.Joining.{joins-told}
use Rattle.rows.proofs.closure.closure.Goals as goal

pub loop-k-init : goal.loop-k-init
loop-k-init c = (close-start _ _, λ i j h x. (c.all_bits-held.ensures j).1 (i, h, x))

pub round_of-requires : goal.round_of-requires
round_of-requires c = let l = c.loop-k in (omega arith, omega arith, omega (arith, l.invariant.0.kept.long), l.invariant.1)

pub overflow_add-joins : goal.overflow_add-joins
overflow_add-joins c =
    let r = c.round_of in
    let l = c.loop-k in
    let a = c.args in
    omega (arith, close-small a.t.now a.n 64 l.t l.k l.joins (omega arith) l.invariant.0, holders-few l.t a.n l.k r.result r.ensures.holders)

pub loop-k-preserved : goal.loop-k-preserved
loop-k-preserved c =
    let r = c.round_of in
    let l = c.loop-k in
    let a = c.args in
    (close-step a.t.now a.n l.t l.k l.joins r.new.t r.result (omega arith) r.ensures.round r.ensures.holders l.invariant.0, held_more l.t r.new.t a.n l.k _ (omega arith) r.ensures.round l.invariant.1)

pub shape_of-t : goal.shape_of-t
shape_of-t c = c.loop-k.invariant.0.kept.long

pub returns : goal.returns
returns c =
    let l = c.loop-k in
    let a = c.args in
    record { closure = close-end a.t.now a.n l.t l.k l.joins (omega arith) l.invariant.0; value = joins-told a.n a.t.now (omega arith) l.t l.k l.joins (omega arith) l.invariant.0 }
