-- `walks::cycles::cycle` meets its contract.
use native.Mathlib.Omega.{arith}
use Rattle.walks.proofs.cycles.Starts.{cycle-none, cycle-some}
use Rattle.walks.proofs.cycles.cycle.Goals as goal

pub returns-in_default : goal.returns-in_default
returns-in_default c =
    let a = c.args in
    record { cycle = cycle-none a.w.now a.s.now a.n a.out.now c.in_default.ensures; cleared = c.clear.ensures }

pub draw-requires : goal.draw-requires
draw-requires c = record { n_bound = (omega arith, omega arith, omega arith, omega arith, omega arith); within = c.requires.within; best = c.in-Some.ensures }

pub returns : goal.returns
returns c =
    let a = c.args in
    let b = c.in-Some in
    let w = c.draw in
    record { cycle = cycle-some a.w.now a.s.now a.n a.out.now _ b.best.len b.ensures.fits w.auto.out w.ensures.drawn; cleared = w.ensures.cleared }
