-- `lines::words::controller_at` meets its contract.
use Rattle.lines.proofs.words.Words.{says-cache, says-dir, says-no-controller}
use mathlib.Core.Path.{sym, ◌∙◌}
use Rattle.lines.proofs.words.controller_at.Goals as goal

pub returns-then-says : goal.returns-then-says
returns-then-says c = says-cache _ (sym c.says.ensures ∙ c.if-says.true)

pub returns-then-says-2 : goal.returns-then-says-2
returns-then-says-2 c = says-dir _ (sym c.says.ensures ∙ c.if-says.false) (sym c.says-2.ensures ∙ c.if-says-2.true)

pub returns : goal.returns
returns c = says-no-controller _ (sym c.says.ensures ∙ c.if-says.false) (sym c.says-2.ensures ∙ c.if-says-2.false)
