-- `lines::shapes::message_shape` meets its contract.
use mathlib.Core.Path.{◌∙◌}
use native.Mathlib.Omega.{arith}
use Rattle.lines.proofs.shapes.Counts.{count-is, count-is-not, has-field, lacks-field}
use Rattle.lines.proofs.shapes.Shaped.{message-short, message-no-kind, message-long, message-right}
use Rattle.lines.proofs.shapes.message_shape.Goals as goal

pub returns-then-count-lt3 : goal.returns-then-count-lt3
returns-then-count-lt3 c = message-short _ (count-is-not c.args.line.now 3 (omega arith) (λ e. absurd (omega (arith, e)))) (lacks-field c.args.line.now 2 (omega arith) (omega arith))

pub returns-in_default : goal.returns-in_default
returns-in_default c = message-no-kind _ (has-field c.args.line.now 2 (omega arith) (omega arith)) c.in_default.ensures

pub returns-then-count-ne3 : goal.returns-then-count-ne3
returns-then-count-ne3 c = message-long _ _ (count-is-not c.args.line.now 3 (omega arith) (λ e. c.if-count-ne3.true (c.count-2.ensures ∙ e))) (has-field c.args.line.now 2 (omega arith) (omega arith)) c.in-Some.ensures

pub returns : goal.returns
returns c = message-right _ _ (count-is c.args.line.now 3 (omega arith) (omega arith)) (has-field c.args.line.now 2 (omega arith) (omega arith)) c.in-Some.ensures
