-- `walks::cycles::shortest` meets its contract.
use Prim.Native.Nat.{◌+◌, ◌-◌}
use native.Mathlib.Omega.{arith}
use Rattle.rows.proofs.Told.{told-false}
use Rattle.walks.proofs.cycles.Opening.{short-off, short-start, front_below, short-empty, short-full, short-step, short-found}
use Rattle.walks.proofs.cycles.shortest.Goals as goal

pub returns-then-most-eq0 : goal.returns-then-most-eq0
returns-then-most-eq0 c =
    let a = c.args in
    short-off a.w.now a.s.now a.n a.x a.most c.if-most-eq0.true

pub loop-k-init : goal.loop-k-init
loop-k-init c =
    let a = c.args in
    short-start a.w.now a.s.now a.n a.x a.most c.all_below.result c.meet-set.result (omega arith) c.if-most-eq0.false c.all_below.ensures c.meet-set.ensures

pub returns-then-has : goal.returns-then-has
returns-then-has c =
    let a = c.args in
    let l = c.loop-k in
    short-found a.w.now a.s.now a.n a.x a.most l.set (l.k - 1) l.invariant l.k (omega arith) (c.has.ensures.0 c.if-has.true)

pub returns-then-set-eq0 : goal.returns-then-set-eq0
returns-then-set-eq0 c =
    let a = c.args in
    let l = c.loop-k in
    short-empty a.w.now a.s.now a.n a.x a.most l.set (l.k - 1) l.invariant (told-false _ c.has.result c.has.ensures c.if-has.false) c.if-set-eq0.true

pub after-set-requires : goal.after-set-requires
after-set-requires c =
    let a = c.args in
    let l = c.loop-k in
    record { le_n = omega arith; below = front_below a.w.now a.s.now a.n a.x a.most l.set (l.k - 1) l.invariant }

pub loop-k-preserved : goal.loop-k-preserved
loop-k-preserved c =
    let a = c.args in
    let l = c.loop-k in
    short-step a.w.now a.s.now a.n a.x a.most l.set (l.k - 1) l.invariant (told-false _ c.has.result c.has.ensures c.if-has.false) c.after-set.result (l.k + 1 - 1) (omega arith) (omega arith) c.after-set.ensures

pub returns-then-has-2 : goal.returns-then-has-2
returns-then-has-2 c =
    let a = c.args in
    let l = c.loop-k in
    short-found a.w.now a.s.now a.n a.x a.most l.set (l.k - 1) l.invariant a.most (omega arith) (c.has-2.ensures.0 c.if-has-2.true)

pub returns-else-has-2 : goal.returns-else-has-2
returns-else-has-2 c =
    let a = c.args in
    let l = c.loop-k in
    short-full a.w.now a.s.now a.n a.x a.most l.set (l.k - 1) l.invariant (told-false _ c.has-2.result c.has-2.ensures c.if-has-2.false) (omega arith)
