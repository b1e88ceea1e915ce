-- What one cell adds to the carriers.
use Rattle.std.specs.Prelude.{ℕ}
use Rattle.rules.specs.Rules.{Enters, Carrier, Cell as RuleCell}

-- Rule 2 at one cell: it enters s, and a is a carrier of it.
abbrev pub CellCarries : RuleCell → ℕ → ℕ → Type 0
CellCarries c s a = Enters c s × Carrier c.trigger c.sent a
