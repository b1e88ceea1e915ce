-- `rows::all_bits` meets its contract.
use Prim.Native.Nat.{◌<◌, ◌^◌}
use native.Mathlib.Omega.{arith}
use Rattle.std.proofs.lemmas.List.{length-take-le, get_or-take}
use Rattle.rows.proofs.Together.{together-start, together-step, together-end}
use Rattle.rows.proofs.all_bits.Goals as goal

pub loop-row-init : goal.loop-row-init
loop-row-init c = together-start 64 c.args.rows.now c.args.n

pub loop-row-preserved : goal.loop-row-preserved
loop-row-preserved c =
    let l = c.loop-row in
    let rows = c.args.rows.now in
    let h : l.row-index < c.args.n = omega (arith, length-take-le c.args.n rows c.requires.1) in
    together-step 64 rows c.args.n l.all l.row-index c.join-all.result h (rw (get_or-take c.args.n rows l.row-index 0 h) at c.join-all.ensures) (let s : c.join-all.result < 2 ^ 64 = omega (arith, c.join-all.type_inv) in s) l.invariant

pub returns : goal.returns
returns c =
    let l = c.loop-row in
    let rows = c.args.rows.now in
    together-end 64 rows c.args.n l.all l.row-index (omega (arith, length-take-le c.args.n rows c.requires.1)) l.invariant
