-- `lines::words::kind_at` meets its contract.
use Rattle.lines.proofs.words.Words.{says-req, says-fwd, says-data, says-ctl, says-no-kind}
use mathlib.Core.Path.{sym, ◌∙◌}
use Rattle.lines.proofs.words.kind_at.Goals as goal

pub returns-then-says : goal.returns-then-says
returns-then-says c = says-req _ (sym c.says.ensures ∙ c.if-says.true)

pub returns-then-says-2 : goal.returns-then-says-2
returns-then-says-2 c = says-fwd _ (sym c.says.ensures ∙ c.if-says.false) (sym c.says-2.ensures ∙ c.if-says-2.true)

pub returns-then-says-3 : goal.returns-then-says-3
returns-then-says-3 c = says-data _ (sym c.says.ensures ∙ c.if-says.false) (sym c.says-2.ensures ∙ c.if-says-2.false) (sym c.says-3.ensures ∙ c.if-says-3.true)

pub returns-then-says-4 : goal.returns-then-says-4
returns-then-says-4 c = says-ctl _ (sym c.says.ensures ∙ c.if-says.false) (sym c.says-2.ensures ∙ c.if-says-2.false) (sym c.says-3.ensures ∙ c.if-says-3.false) (sym c.says-4.ensures ∙ c.if-says-4.true)

pub returns : goal.returns
returns c = says-no-kind _ (sym c.says.ensures ∙ c.if-says.false) (sym c.says-2.ensures ∙ c.if-says-2.false) (sym c.says-3.ensures ∙ c.if-says-3.false) (sym c.says-4.ensures ∙ c.if-says-4.false)
