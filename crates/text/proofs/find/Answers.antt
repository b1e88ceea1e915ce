-- `text::find` meets its contract.
use mathlib.Core.Path.{◌≡◌, sym, ◌∙◌}
use native.Mathlib.Omega.{arith}
use Rattle.text.proofs.Parts.{place_end, place_here, place-next}
use Rattle.text.proofs.find.Goals as goal

pub returns-then-text-at : goal.returns-then-text-at
returns-then-text-at c = sym (sym c.loop-at.invariant ∙ place_here c.args.b c.args.text.now c.loop-at.at c.args.to (omega arith) (omega arith) c.if-text-at.true)

pub loop-at-preserved : goal.loop-at-preserved
loop-at-preserved c = place-next c.args.b c.args.text.now c.loop-at.at c.args.to (omega arith) (omega arith) c.if-text-at.false ∙ c.loop-at.invariant

pub returns : goal.returns
returns c =
    let e : c.loop-at.at ≡ c.args.to = omega arith in
    sym (place_end c.args.b c.args.text.now c.args.to) ∙ (rw e at c.loop-at.invariant)
