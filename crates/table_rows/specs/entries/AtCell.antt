-- When one cell has no entry.
use Rattle.std.specs.Prelude.{◌≡◌, ℕ}
use Rattle.rules.specs.Rules.{message, stall, MessageNo, Cell as RuleCell}

-- Refusal 13 at one cell: it is a `stall` cell of a message, and no number has P.
abbrev pub CellNoEntry : (ℕ → Type 0) → RuleCell → Type 0
CellNoEntry P c = ((b : MessageNo) × (c.trigger ≡ message b)) × (c.outcome ≡ stall) × ((a : MessageNo) → ¬ P a)
