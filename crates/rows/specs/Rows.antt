-- A relation given by rows: bit j of row i says that i is in relation to j. Nothing here knows a width.
use Rattle.std.specs.Prelude.{ℕ, ◌<◌, ◌≤◌, ◌/◌, ◌%◌, ◌^◌, ◌≡◌, ◌↔◌, List, get_or}
use Rattle.rules.specs.Rules.{Relations}

-- Bit j of a row is set.
abbrev pub Bit : ℕ → ℕ → Type 0
Bit row j = row / 2 ^ j % 2 ≡ 1

-- The relation of the first n rows, as far as they speak of numbers below n.
pub record Rows (n : ℕ) (rows : List ℕ) (i j : ℕ) : Type 0 where
  pub i_below : i < n
  pub j_below : j < n
  pub bit : Bit (get_or rows i 0) j

-- One of the first n rows has a bit at or above n.
pub record Stray (n : ℕ) (rows : List ℕ) : Type 0 where
  pub i : ℕ
  pub j : ℕ
  pub i_below : i < n
  pub j_above : n ≤ j
  pub bit : Bit (get_or rows i 0) j

-- r has the bits of the first n rows, together.
abbrev pub AllBits : ℕ → List ℕ → ℕ → Type 0
AllBits n rows r = (j : ℕ) → Bit r j ↔ ((a : ℕ) × (a < n) × Bit (get_or rows a 0) j)

-- The relations of n messages that two tables of rows give.
abbrev pub of_rows : ℕ → List ℕ → List ℕ → Relations
of_rows n causes stalls = record { count = n; causes = Rows n causes; stalls = Rows n stalls }
