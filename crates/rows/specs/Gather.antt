-- Rows gathered by sets.
use Rattle.std.specs.Prelude.{ℕ, ◌<◌, ◌≡◌, ◌↔◌, List, length, get_or}
use Rattle.rows.specs.Rows.{Bit}
use Rattle.rows.specs.Row.{Join}
use Rattle.rows.specs.Closure.{KeptFrom}

-- The first n rows have no bit at or above n.
abbrev pub Tidy : ℕ → List ℕ → Type 0
Tidy n rows = (i j : ℕ) → i < n → Bit (get_or rows i 0) j → j < n

-- Each row whose place is in the set takes in the row given; the others are as they were.
pub record Spread (row set : ℕ) (old new : List ℕ) : Type 0 where
  pub taken : (b : ℕ) → Bit set b → Join (get_or old b 0) row (get_or new b 0)
  pub rest : (b : ℕ) → ¬ Bit set b → get_or new b 0 ≡ get_or old b 0
  pub long : length new ≡ length old

-- Row b is the union of the rows given of all a whose set has b, for b below n; the others are as they were.
pub record Gathered (n : ℕ) (given sets old new : List ℕ) : Type 0 where
  pub bits : (b c : ℕ) → b < n → Bit (get_or new b 0) c ↔ ((a : ℕ) × (a < n) × Bit (get_or sets a 0) b × Bit (get_or given a 0) c)
  pub kept : KeptFrom n old new
