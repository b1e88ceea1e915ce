-- The rows of waits.
use Rattle.std.specs.Prelude.{ℕ, ◌<◌, ◌↔◌, List, get_or, replicate}
use Rattle.rules.specs.Rules.{Waits}
use Rattle.rules.specs.Plan.{Pairs}
use Rattle.rows.specs.Rows.{Bit, Rows, of_rows}
use Rattle.rows.specs.Closure.{KeptFrom}

-- Rule 4 in rows: bit c of row b says that b waits for c. There is nothing else in the first n rows, and the others are as they were.
pub record WaitsRows (n : ℕ) (causes stalls old new : List ℕ) : Type 0 where
  pub bits : (b c : ℕ) → b < n → Bit (get_or new b 0) c ↔ Waits (of_rows n causes stalls) b c
  pub kept : KeptFrom n old new

-- Rule 4 in so many rows: those from n on are 0.
abbrev pub WaitsOnly : ℕ → ℕ → List ℕ → List ℕ → List ℕ → Type 0
WaitsOnly most n causes stalls rows = WaitsRows n causes stalls (replicate most 0) rows

-- The pairs of the first n rows are k.
pub record RowPairs (n : ℕ) (rows : List ℕ) (k : ℕ) : Type 0 where
  pub counted : Pairs (Rows n rows) n n k
