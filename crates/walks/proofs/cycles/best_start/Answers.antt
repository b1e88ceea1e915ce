-- `walks::cycles::best_start` meets its contract.
use native.Mathlib.Omega.{arith}
use Rattle.walks.proofs.cycles.Starts.{starts-yes, starts-no, starts-end}
use Rattle.walks.proofs.cycles.best_start.Goals as goal
use Rattle.walks.proofs.cycles.best_start.Goals.{in-Some, in_default}

pub loop-x-preserved : goal.loop-x-preserved
loop-x-preserved c =
    let a = c.args in
    let l = c.loop-x in
    elim c.match-shortest.branch [
      | in-Some u ↦ rw (u.best-is, u.most-is) (starts-yes a.w.now a.s.now a.n l.most l.x (omega arith) l.best u.in-Some.len l.invariant u.in-Some.ensures)
      | in_default u ↦ rw (u.best-is, u.most-is) (starts-no a.w.now a.s.now a.n l.most l.x (omega arith) l.best l.invariant u.in_default.ensures)
    ]

pub returns : goal.returns
returns c =
    let a = c.args in
    let l = c.loop-x in
    starts-end a.w.now a.s.now a.n l.best l.most l.x (omega arith) (omega arith) l.invariant
