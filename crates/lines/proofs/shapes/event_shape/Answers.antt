-- `lines::shapes::event_shape` meets its contract.
use native.Mathlib.Omega.{arith}
use Rattle.lines.proofs.shapes.Counts.{count-is, count-is-not}
use Rattle.lines.proofs.shapes.Shaped.{event-right, event-wrong}
use Rattle.lines.proofs.shapes.event_shape.Goals as goal

pub returns-then-count-ne2 : goal.returns-then-count-ne2
returns-then-count-ne2 c = event-wrong _ (count-is-not c.args.line.now 2 (omega arith) (λ e. absurd (omega (arith, e))))

pub returns : goal.returns
returns c = event-right _ (count-is c.args.line.now 2 (omega arith) (omega arith))
