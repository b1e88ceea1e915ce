-- What one cell adds to where states lead, and rows with their own places.
use Rattle.std.specs.Prelude.{ℕ, ◌<◌, ◌≡◌, Bool, true, List, get_or}
use Rattle.rules.specs.Rules.{go, StateNo, Cell as RuleCell}
use Rattle.rows.specs.Row.{With}
use Rattle.rows.specs.Closure.{KeptFrom}

-- Rule 3 at one cell: its state r is transient, and it goes into s.
abbrev pub CellLeads : Bool → RuleCell → StateNo → StateNo → Type 0
CellLeads transient c r s = (transient ≡ true) × (c.state ≡ r) × (c.outcome ≡ go s)

-- Each of the first n rows has its own place too; the others are as they were.
pub record OwnAdded (n : ℕ) (old new : List ℕ) : Type 0 where
  pub own : (i : ℕ) → i < n → With (get_or old i 0) i (get_or new i 0)
  pub kept : KeptFrom n old new
