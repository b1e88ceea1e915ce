-- `walks::heights::write` meets its contract.
use native.Mathlib.Omega.{arith}
use Rattle.walks.proofs.heights.Levels.{write-start, write_step, write-end}
use Rattle.walks.proofs.heights.write.Goals as goal

pub loop-m-init : goal.loop-m-init
loop-m-init c = write-start _ _ _ _

pub last-requires : goal.last-requires
last-requires c =
    let p = c.requires in
    (omega arith, omega arith, omega arith, omega arith, p.by_index c.loop-m.m (omega arith))

pub overflow_cast-out : goal.overflow_cast-out
overflow_cast-out c = omega (arith, c.last.ensures.small)

pub loop-m-preserved : goal.loop-m-preserved
loop-m-preserved c =
    let a = c.args in
    let l = c.loop-m in
    write_step a.sets.now a.count a.n a.out.now l.out l.m c.last.result (omega arith) (omega arith) c.last.ensures l.invariant

pub shape_of-out : goal.shape_of-out
shape_of-out c = c.loop-m.invariant.same_length

pub returns : goal.returns
returns c =
    let a = c.args in
    let l = c.loop-m in
    write-end a.sets.now a.count a.n a.out.now l.out l.m (omega arith) l.invariant
