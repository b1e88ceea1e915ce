-- `mapping::lines::is_map` meets its contract.
use mathlib.Core.Path.{sym, ◌∙◌}
use native.Mathlib.Omega.{arith}
use Rattle.mapping.proofs.lines.LineLaws.{shape-word, shape-length, shape_is, three, not-three}
use Rattle.mapping.proofs.lines.is_map.Goals as goal

pub returns-then-not-is : goal.returns-then-not-is
returns-then-not-is c = shape-word _ (sym c.is.ensures ∙ c.if-not-is.true)

pub returns-then-count-ne3 : goal.returns-then-count-ne3
returns-then-count-ne3 c = shape-length _ (sym c.is.ensures ∙ c.if-not-is.false) (not-three c.args.line.now (λ e. absurd (omega (arith, e))))

pub returns : goal.returns
returns c = shape_is _ (sym c.is.ensures ∙ c.if-not-is.false) (three c.args.line.now (omega arith))
