-- `walks::into` meets its contract.
use Prim.Native.Nat.{◌<◌}
use native.Mathlib.Omega.{arith}
use Rattle.std.proofs.lemmas.List.{length-take-le, get_or-take}
use Rattle.rows.specs.Row.{Meet}
use lib.ListN.{get_or}
use Rattle.walks.proofs.Sets.{into-yes, into-no, into-end}
use Rattle.walks.proofs.into.Goals as goal
use Rattle.walks.proofs.into.Goals.{then-meet-ne0, else-meet-ne0}

pub loop-y-preserved : goal.loop-y-preserved
loop-y-preserved c =
    let a = c.args in
    let l = c.loop-y in
    let m = c.meet in
    let h : l.y < a.n = omega (arith, length-take-le a.n a.s.now c.requires.1) in
    let both : Meet (get_or a.s.now l.y 0) a.set m.result = rw (get_or-take a.n a.s.now l.y 0 h) at m.ensures in
    elim c.if-meet-ne0.branch [
      | then-meet-ne0 w ↦ rw w.r-is (into-yes a.s.now a.n a.set l.r l.y h l.invariant m.result w.with_bit-r.result both w.if-meet-ne0.true w.with_bit-r.ensures)
      | else-meet-ne0 w ↦ rw w.r-is (into-no a.s.now a.n a.set l.r l.y h l.invariant m.result both w.if-meet-ne0.false)
    ]

pub returns : goal.returns
returns c =
    let a = c.args in
    let l = c.loop-y in
    into-end a.s.now a.n a.set l.r l.y (omega (arith, length-take-le a.n a.s.now c.requires.1)) l.invariant
