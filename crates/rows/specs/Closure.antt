-- The closure of a table of rows, and what its loops do.
use Rattle.std.specs.Prelude.{ℕ, ◌+◌, ◌<◌, ◌≤◌, ◌≡◌, ◌⊎◌, ◌↔◌, List, length, get_or}
use Rattle.rules.specs.Walks.{Rel, Plus}
use Rattle.rules.specs.Plan.{Counts}
use Rattle.rows.specs.Rows.{Bit}

-- A step of the first n rows: it starts below n, and bit j of row i says where it may end.
abbrev pub RowStep : ℕ → List ℕ → Rel
RowStep n rows i j = (i < n) × Bit (get_or rows i 0) j

-- The rows from n on are as they were, and there are as many rows.
pub record KeptFrom (n : ℕ) (given rows : List ℕ) : Type 0 where
  pub rest : (i : ℕ) → n ≤ i → get_or rows i 0 ≡ get_or given i 0
  pub long : length rows ≡ length given

-- The first n rows are 0, and the others are as they were.
pub record Cleared (n : ℕ) (old new : List ℕ) : Type 0 where
  pub none : (b : ℕ) → b < n → get_or new b 0 ≡ 0
  pub kept : KeptFrom n old new

-- Bit j of row i, i below n: j is reached from i by one or more of the steps given.
pub record Closure (n : ℕ) (given rows : List ℕ) : Type 0 where
  pub reached : (i j : ℕ) → i < n → Bit (get_or rows i 0) j ↔ Plus (RowStep n given) i j
  pub kept : KeptFrom n given rows

-- r has the bits of row, and those of other too if row has bit k.
pub record Joined (row other k r : ℕ) : Type 0 where
  pub bits : (j : ℕ) → Bit r j ↔ (Bit row j ⊎ (Bit row k × Bit other j))

-- The count goes from c to d: one more if the row holds message k.
pub record Counted (row k c d : ℕ) : Type 0 where
  pub one_more : Bit row k → d ≡ c + 1
  pub as_it_was : ¬ Bit row k → d ≡ c

-- A round of the closure: each of the first n rows takes in row k if it has bit k.
pub record Round (given : List ℕ) (n k : ℕ) (rows : List ℕ) : Type 0 where
  pub each : (i : ℕ) → i < n → Joined (get_or given i 0) (get_or given k 0) k (get_or rows i 0)
  pub kept : KeptFrom n given rows

-- Each bit of the first n rows is one of `held`.
abbrev pub HeldBits : ℕ → List ℕ → ℕ → Type 0
HeldBits n rows held = (i j : ℕ) → i < n → Bit (get_or rows i 0) j → Bit held j

-- Of the first n rows, c hold message k.
pub record Holders (rows : List ℕ) (n k c : ℕ) : Type 0 where
  pub counted : Counts (λ i. Bit (get_or rows i 0) k) n c
