-- `text::find` meets its contract: what was searched has no b.
use mathlib.Core.Path.{◌≡◌}
use Rattle.text.specs.Parts.{place}
use Rattle.text.proofs.find.Given as goal

abbrev pub invariant-loop-at : goal.invariant-loop-at
invariant-loop-at l = place l.b l.text l.at l.to ≡ place l.b l.text l.from l.to
