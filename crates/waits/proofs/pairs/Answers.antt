-- `waits::pairs` meets its contract.
use Prim.Native.Nat.{ℕ, ◌<◌}
use mathlib.Core.Path.{subst}
use native.Mathlib.Omega.{arith}
use Rattle.std.proofs.lemmas.List.{length-take-le, get_or-take}
use Rattle.rows.specs.Row.{Ones}
use Rattle.waits.proofs.Waiting.{pairs_start, pairs-step, pairs_end, ones_small}
use Rattle.waits.proofs.pairs.Goals as goal

pub loop-row-init : goal.loop-row-init
loop-row-init c = pairs_start 64 c.args.n c.args.rows.now

pub overflow_cast-sum : goal.overflow_cast-sum
overflow_cast-sum c = omega (arith, ones_small 64 _ _ c.ones.ensures)

pub overflow_add-sum : goal.overflow_add-sum
overflow_add-sum c = omega (arith, ones_small 64 _ _ c.ones.ensures, c.loop-row.invariant.small, length-take-le c.args.n c.args.rows.now c.requires.1)

pub loop-row-preserved : goal.loop-row-preserved
loop-row-preserved c =
    let l = c.loop-row in
    let a = c.args in
    let h : l.row-index < a.n = omega (arith, length-take-le a.n a.rows.now c.requires.1) in
    pairs-step 64 a.n a.rows.now l.sum l.row-index c.ones.result c.requires.0 c.requires.2 h (subst (λ (x : ℕ). Ones 64 x c.ones.result) (get_or-take a.n a.rows.now l.row-index 0 h) c.ones.ensures) l.invariant

pub returns : goal.returns
returns c =
    let l = c.loop-row in
    let a = c.args in
    pairs_end 64 a.n a.rows.now l.sum l.row-index (omega (arith, length-take-le a.n a.rows.now c.requires.1)) l.invariant
