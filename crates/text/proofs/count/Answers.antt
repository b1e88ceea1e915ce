-- `text::count` meets its contract.
use native.Mathlib.Omega.{arith}
use Rattle.text.proofs.Parts.{many-next, many-other, many-end, many-le}
use Rattle.text.proofs.count.Goals as goal
use Rattle.text.proofs.count.Goals.{then-byte-b, else-byte-b}

pub loop-byte-init : goal.loop-byte-init
loop-byte-init c = omega arith

pub overflow_add-n : goal.overflow_add-n
overflow_add-n c =
    let text = c.args.text.now in
    let more = many-next c.args.b text c.loop-byte.byte-index (omega arith) c.if-byte-b.true in
    omega (arith, many-le c.args.b text, c.loop-byte.invariant)

pub loop-byte-preserved : goal.loop-byte-preserved
loop-byte-preserved c =
    let text = c.args.text.now in
    let b = c.args.b in
    let i = c.loop-byte.byte-index in
    elim c.if-byte-b.branch [
      | then-byte-b w ↦ let q = many-next b text i (omega arith) w.if-byte-b.true in omega (arith, c.loop-byte.invariant)
      | else-byte-b w ↦ let q = many-other b text i (omega arith) w.if-byte-b.false in omega (arith, c.loop-byte.invariant)
    ]

pub returns : goal.returns
returns c = omega (arith, many-end c.args.b c.args.text.now c.loop-byte.byte-index (omega arith), c.loop-byte.invariant)
