-- What one cell adds to the causes.
use Rattle.std.specs.Prelude.{ℕ, ◌≡◌}
use Rattle.rules.specs.Lists.{◌∈◌}
use Rattle.rules.specs.Rules.{message, go, StateNo, Cell as RuleCell}

-- Rule 1 at one cell: it is a `go` cell triggered by a, and sends b.
abbrev pub CellCauses : RuleCell → ℕ → ℕ → Type 0
CellCauses c a b = ((s : StateNo) × (c.outcome ≡ go s)) × (c.trigger ≡ message a) × (b ∈ c.sent)
