-- `table_rows::stallers::add_own` meets its contract.
use Prim.Native.Nat.{ℕ}
use mathlib.Core.Path.{subst}
use native.Mathlib.Omega.{arith}
use Rattle.rows.specs.Row.{With}
use Rattle.rows.proofs.FillingRows.{fill_start, fill_step, fill-each, fill-kept}
use Rattle.table_rows.proofs.stallers.add_own.Invariants.{Own}
use Rattle.table_rows.proofs.stallers.add_own.Goals as goal

pub loop-i-init : goal.loop-i-init
loop-i-init c = let a = c.args in fill_start (Own a.rows.now) a.n a.rows.now

pub bounds-rows-i : goal.bounds-rows-i
bounds-rows-i c = omega (arith, c.loop-i.invariant.long)

pub bounds-rows-i-in-loop-i : goal.bounds-rows-i-in-loop-i
bounds-rows-i-in-loop-i c = omega (arith, c.loop-i.invariant.long)

pub loop-i-preserved : goal.loop-i-preserved
loop-i-preserved c =
    let l = c.loop-i in
    fill_step (Own c.args.rows.now) c.args.n c.args.rows.now l.rows l.i c.with_bit.result c.requires.1 (omega arith)
    (subst (λ (x : ℕ). With x l.i c.with_bit.result) (l.invariant.todo l.i (omega arith)) c.with_bit.ensures) l.invariant

pub shape_of-rows : goal.shape_of-rows
shape_of-rows c = c.loop-i.invariant.long

pub returns : goal.returns
returns c =
    let a = c.args in
    let l = c.loop-i in
    record { own = fill-each (Own a.rows.now) a.n a.rows.now l.rows l.i (omega arith) l.invariant; kept = fill-kept (Own a.rows.now) a.n a.rows.now l.rows l.i (omega arith) l.invariant }
