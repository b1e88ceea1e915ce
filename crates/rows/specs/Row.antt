-- What is done with one row, told by its bits. Nothing here knows a width but by a parameter.
use Rattle.std.specs.Prelude.{ℕ, ◌<◌, ◌≤◌, ◌≡◌, ◌⊎◌, ◌≢◌, ◌↔◌}
use Rattle.rules.specs.Plan.{Counts}
use Rattle.rows.specs.Rows.{Bit}

-- r is the row with bit j set.
pub record With (row j r : ℕ) : Type 0 where
  pub bits : (i : ℕ) → Bit r i ↔ (Bit row i ⊎ (i ≡ j))

-- r is the place of the lowest set bit, of w bits.
pub record Lowest (w row r : ℕ) : Type 0 where
  pub below : r < w
  pub bit : Bit row r
  pub least : (i : ℕ) → Bit row i → r ≤ i

-- r is the row with bit j, which it has, cleared.
pub record Without (row j r : ℕ) : Type 0 where
  pub bits : (i : ℕ) → Bit r i ↔ (Bit row i × (i ≢ j))
  pub less : r < row

-- r is the row, of w bits, without its lowest set bit.
pub record WithoutLowest (w row r : ℕ) : Type 0 where
  pub cleared : (j : ℕ) → Lowest w row j → Without row j r

-- r has the bits of a and those of b.
pub record Join (a b r : ℕ) : Type 0 where
  pub bits : (i : ℕ) → Bit r i ↔ (Bit a i ⊎ Bit b i)

-- r has the bits that a and b both have.
pub record Meet (a b r : ℕ) : Type 0 where
  pub bits : (i : ℕ) → Bit r i ↔ (Bit a i × Bit b i)

-- r has every bit below n, and no other.
pub record AllBelow (n r : ℕ) : Type 0 where
  pub bits : (i : ℕ) → Bit r i ↔ (i < n)

-- r of the row's w bits are set.
pub record Ones (w row r : ℕ) : Type 0 where
  pub counted : Counts (Bit row) w r
