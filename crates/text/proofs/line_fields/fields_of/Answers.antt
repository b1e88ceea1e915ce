-- `text::line_fields::fields_of` meets its contract.
use mathlib.Core.Path.{◌≡◌}
use mathlib.Core.Logic.{inl, inr}
use native.Mathlib.Omega.{arith}
use Rattle.text.proofs.FieldLaws.{filled-first, filled_more, filled-all}
use Rattle.text.proofs.line_fields.fields_of.Goals as goal

pub loop-n-init : goal.loop-n-init
loop-n-init c = rw c.find-e.ensures (filled-first c.args.text.now c.args.from c.args.to (omega arith) (omega arith))

pub returns-then-to-e : goal.returns-then-to-e
returns-then-to-e c = filled-all c.args.text.now c.args.from c.args.to c.loop-n.n c.loop-n.e c.loop-n.spans c.loop-n.invariant (inl c.if-to-e.true)

pub loop-n-preserved : goal.loop-n-preserved
loop-n-preserved c = rw c.find-e-in-loop-n.ensures (filled_more c.args.text.now c.args.from c.args.to (omega arith) (omega arith) c.loop-n.n c.loop-n.e c.loop-n.spans c.loop-n.invariant (omega arith) (omega arith))

pub returns : goal.returns
returns c =
    let e : c.loop-n.n ≡ 15 = omega (arith, c.loop-n.invariant.few) in
    rw e at (filled-all c.args.text.now c.args.from c.args.to c.loop-n.n c.loop-n.e c.loop-n.spans c.loop-n.invariant (inr e))
