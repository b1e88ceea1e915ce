-- What `heights` and `cycle` answer. The tables w and s are lists of rows: bit j of row i says that a step leads from i to j.
-- `old` and `new` are the lent bytes at entry and at exit.
use Rattle.std.specs.Prelude.{ℕ, suc, ◌<◌, ◌≤◌, ◌≡◌, Option, MatchOption, List, length, get_or, take, drop}
use Rattle.rules.specs.Walks.{Plus}
use Rattle.rules.specs.Plan.{Height, Closed, Shown}
use Rattle.rows.specs.Rows.{Rows}

-- The steps have a cycle, and no byte is changed.
pub record NoHeights (w : List ℕ) (n : ℕ) (old new : List ℕ) : Type 0 where
  pub cyclic : (a : ℕ) × Plus (Rows n w) a a
  pub kept : new ≡ old

-- Byte m is the height of m, for each m below n; r is one more than the greatest of them, the numbers on the longest chain; and the bytes from n on are as they were.
pub record HeightsWritten (w : List ℕ) (n : ℕ) (old new : List ℕ) (r : ℕ) : Type 0 where
  pub height : (m : ℕ) → m < n → Height (Rows n w) m (get_or new m 0)
  pub below : (m : ℕ) → m < n → get_or new m 0 < r
  pub greatest : (m : ℕ) × (m < n) × (suc (get_or new m 0) ≡ r)
  pub rest : drop n new ≡ drop n old

-- The answer r of `heights`. There is none where the steps have a cycle, and no byte is changed; else it tells the heights that are written.
pub record Heights (w : List ℕ) (n : ℕ) (old new : List ℕ) (r : Option ℕ) : Type 0 where
  pub long : length new ≡ length old
  pub told : MatchOption r (NoHeights w n old new) (HeightsWritten w n old new)

-- Each step of w is a step of s.
abbrev pub Within : ℕ → List ℕ → List ℕ → Type 0
Within n w s = (a b : ℕ) → Rows n w a b → Rows n s a b

-- There is no closed walk of steps of s whose first step is one of w, and no byte is changed.
pub record NoCycle (w s : List ℕ) (n : ℕ) (old new : List ℕ) : Type 0 where
  pub none : (ms : List ℕ) → ¬ Closed (Rows n w) (Rows n s) ms
  pub kept : new ≡ old

-- The first r bytes are the shown cycle, and the bytes from r on are as they were.
pub record CycleWritten (w s : List ℕ) (n : ℕ) (old new : List ℕ) (r : ℕ) : Type 0 where
  pub fits : r ≤ n
  pub shown : Shown (Rows n w) (Rows n s) (take r new)
  pub rest : drop r new ≡ drop r old

-- The answer r of `cycle`. There is none where there is no closed walk of steps of s whose first step is one of w; else it is the length of the shown cycle.
pub record Cycle (w s : List ℕ) (n : ℕ) (old new : List ℕ) (r : Option ℕ) : Type 0 where
  pub long : length new ≡ length old
  pub told : MatchOption r (NoCycle w s n old new) (CycleWritten w s n old new)
