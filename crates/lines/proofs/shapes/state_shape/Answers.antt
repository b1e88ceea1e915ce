-- `lines::shapes::state_shape` meets its contract.
use mathlib.Core.Path.{◌∙◌}
use native.Mathlib.Omega.{arith}
use Rattle.lines.proofs.shapes.Counts.{count-is, count-is-not, has-field, lacks-field}
use Rattle.lines.proofs.shapes.Shaped.{state-short, state-no-controller, state-cut, state-no-stability, state-long, state-both}
use Rattle.lines.proofs.shapes.state_shape.Goals as goal

pub returns-then-count-lt2 : goal.returns-then-count-lt2
returns-then-count-lt2 c = state-short _ (count-is-not c.args.line.now 4 (omega arith) (λ e. absurd (omega (arith, e)))) (lacks-field c.args.line.now 1 (omega arith) (omega arith)) (lacks-field c.args.line.now 3 (omega arith) (omega arith))

pub returns-in_default : goal.returns-in_default
returns-in_default c = state-no-controller _ (has-field c.args.line.now 1 (omega arith) (omega arith)) c.in_default.ensures

pub returns-then-count-lt4 : goal.returns-then-count-lt4
returns-then-count-lt4 c = state-cut _ _ c.in-Some.ensures (has-field c.args.line.now 1 (omega arith) (omega arith)) (count-is-not c.args.line.now 4 (omega arith) (λ e. absurd (omega (arith, e)))) (lacks-field c.args.line.now 3 (omega arith) (omega arith))

pub returns-in_default-stability_at : goal.returns-in_default-stability_at
returns-in_default-stability_at c = state-no-stability _ _ c.in-Some.ensures (has-field c.args.line.now 1 (omega arith) (omega arith)) (has-field c.args.line.now 3 (omega arith) (omega arith)) c.in_default-stability_at.ensures

pub returns-then-count-ne4 : goal.returns-then-count-ne4
returns-then-count-ne4 c = state-long _ _ c.in-Some.ensures (has-field c.args.line.now 1 (omega arith) (omega arith)) _ c.in-Some-stability_at.ensures (has-field c.args.line.now 3 (omega arith) (omega arith)) (count-is-not c.args.line.now 4 (omega arith) (λ e. c.if-count-ne4.true (c.count-3.ensures ∙ e)))

pub returns : goal.returns
returns c = state-both _ _ c.in-Some.ensures (has-field c.args.line.now 1 (omega arith) (omega arith)) _ c.in-Some-stability_at.ensures (has-field c.args.line.now 3 (omega arith) (omega arith)) (count-is c.args.line.now 4 (omega arith) (omega arith))
