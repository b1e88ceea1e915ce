-- What one cell adds to the stalls.
use Rattle.std.specs.Prelude.{ℕ, ◌≡◌, List, get_or}
use Rattle.rules.specs.Rules.{message, stall, Cell as RuleCell}
use Rattle.rows.specs.Rows.{Bit}

-- a is among those of row s.
abbrev pub Among : List ℕ → ℕ → ℕ → Type 0
Among rows a s = Bit (get_or rows s 0) a

-- Rule 3 at one cell: it is a `stall` cell of b in a state whose stallers a is among.
abbrev pub CellStalls : (ℕ → ℕ → Type 0) → RuleCell → ℕ → ℕ → Type 0
CellStalls C c a b = (c.trigger ≡ message b) × (c.outcome ≡ stall) × C a c.state

-- One column: b beside each a of a row.
abbrev pub Column : ℕ → ℕ → ℕ → ℕ → Type 0
Column who b a j = Bit who a × (j ≡ b)
