-- `text::same` meets its contract.
use mathlib.Core.Path.{◌∙◌}
use Rattle.text.proofs.Parts.{same-pointwise}
use Rattle.text.proofs.same.Goals as goal

pub returns : goal.returns
returns c = c.eq.ensures ∙ same-pointwise c.args.a.now c.args.b.now
