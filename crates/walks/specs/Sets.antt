-- What is found on the way to the heights and to the shown cycle: rows that are sets of numbers, and tables of such sets.
use Rattle.std.specs.Prelude.{ℕ, zero, suc, ◌+◌, ◌-◌, ◌<◌, ◌≤◌, ◌≡◌, ◌↔◌, Option, MatchOption, List, length, get_or, take, drop}
use Rattle.rules.specs.Walks.{Rel, Plus, Exactly}
use Rattle.rules.specs.Plan.{Closed, Shown}
use Rattle.rows.specs.Rows.{Bit, Rows}
use Rattle.walks.specs.declared.cycles.Start.{Start}

-- The bits of r are the numbers below n from which a step of s leads into the set.
pub record Into (s : List ℕ) (n set r : ℕ) : Type 0 where
  pub bits : (y : ℕ) → Bit r y ↔ ((y < n) × ((z : ℕ) × Bit (get_or s y 0) z × Bit set z))

-- The set has numbers below n only.
abbrev pub Below : ℕ → ℕ → Type 0
Below n set = (z : ℕ) → Bit set z → z < n

-- ---- heights

-- The bits of r are the numbers of the set from which a step of w leads into the set.
pub record Staying (w : List ℕ) (set r : ℕ) : Type 0 where
  pub bits : (y : ℕ) → Bit r y ↔ (Bit set y × ((z : ℕ) × Bit (get_or w y 0) z × Bit set z))

-- A chain of k steps starts at m, which is below n.
abbrev pub StepsFrom : Rel → ℕ → ℕ → ℕ → Type 0
StepsFrom R n zero m = m < n
StepsFrom R n (suc k) m = (z : ℕ) × R m z × StepsFrom R n k z

-- The set at place k of the table has the numbers at which a chain of k steps starts, for k below r. No chain has r steps; one has a step less.
pub record Levels (w : List ℕ) (n : ℕ) (sets : List ℕ) (r : ℕ) : Type 0 where
  pub fits : r ≤ n
  pub sets_are : (k : ℕ) → k < r → (m : ℕ) → Bit (get_or sets k 0) m ↔ StepsFrom (Rows n w) n k m
  pub none : (m : ℕ) → ¬ StepsFrom (Rows n w) n r m
  pub some : (j : ℕ) → r ≡ suc j → (m : ℕ) × StepsFrom (Rows n w) n j m

-- The answer of `rounds`: none where there is a cycle.
abbrev pub Rounds : List ℕ → ℕ → List ℕ → Option ℕ → Type 0
Rounds w n sets r = MatchOption r ((a : ℕ) × Plus (Rows n w) a a) (Levels w n sets)

-- Of the first `count` sets, m is in the sets 0 to h, and not in the one after if there is one.
pub record LastSet (sets : List ℕ) (count m h : ℕ) : Type 0 where
  pub small : h < count
  pub in_it : (j : ℕ) → j ≤ h → Bit (get_or sets j 0) m
  pub not_next : h + 1 < count → ¬ Bit (get_or sets (h + 1) 0) m

-- The answer of `write`.
pub record Written (sets : List ℕ) (count n : ℕ) (old new : List ℕ) : Type 0 where
  pub last : (m : ℕ) → m < n → LastSet sets count m (get_or new m 0)
  pub rest : drop n new ≡ drop n old

-- ---- the shown cycle

-- The bits of r are the numbers below n to which a step of s leads from a number of the set.
pub record After (s : List ℕ) (n set r : ℕ) : Type 0 where
  pub bits : (y : ℕ) → Bit r y ↔ ((y < n) × ((z : ℕ) × Bit set z × Bit (get_or s z 0) y))

-- A step of w and then k steps of s lead from x to v.
abbrev pub Reaches : List ℕ → List ℕ → ℕ → ℕ → ℕ → ℕ → Type 0
Reaches w s n x k v = (y : ℕ) × Rows n w x y × Exactly (Rows n s) k y v

-- A closed walk of k + 1 steps begins at x: a step of w, and k steps of s.
abbrev pub ClosedFrom : List ℕ → List ℕ → ℕ → ℕ → ℕ → Type 0
ClosedFrom w s n x k = Reaches w s n x k x

-- The shortest closed walks that begin at x have r steps, at least one and at most `most`.
pub record ShortestAre (w s : List ℕ) (n x most r : ℕ) : Type 0 where
  pub some : 1 ≤ r
  pub fits : r ≤ most
  pub opens : ClosedFrom w s n x (r - 1)
  pub none_shorter : (k : ℕ) → suc k < r → ¬ ClosedFrom w s n x k

-- The answer of `shortest`: none where no closed walk of at most `most` steps begins at x.
abbrev pub Shortest : List ℕ → List ℕ → ℕ → ℕ → ℕ → Option ℕ → Type 0
Shortest w s n x most r = MatchOption r ((k : ℕ) → k < most → ¬ ClosedFrom w s n x k) (ShortestAre w s n x most)

-- The set at place k of the table has the numbers from which x is reached in exactly k steps, for k below len.
abbrev pub Layers : List ℕ → ℕ → ℕ → ℕ → List ℕ → Type 0
Layers s n x len sets = (k : ℕ) → k < len → (y : ℕ) → Bit (get_or sets k 0) y ↔ Exactly (Rows n s) k y x

-- The shortest closed walks have len steps, and x is the least number that one of them begins with.
pub record FoundAt (w s : List ℕ) (n len x : ℕ) : Type 0 where
  pub opens : ClosedFrom w s n x (len - 1)
  pub none_shorter : (m : List ℕ) → Closed (Rows n w) (Rows n s) m → len ≤ length m
  pub none_before : (m : List ℕ) → Closed (Rows n w) (Rows n s) m → length m ≡ len → x ≤ get_or m 0 0

-- The shortest closed walks of all, and the least number that one of them begins with.
pub record StartIs (w s : List ℕ) (n : ℕ) (b : Start) : Type 0 where
  pub some : 1 ≤ b.len
  pub fits : b.len ≤ n
  pub below : b.at < n
  pub found : FoundAt w s n b.len b.at

-- The answer of `best_start`: none where there is no closed walk.
abbrev pub BestStart : List ℕ → List ℕ → ℕ → Option Start → Type 0
BestStart w s n r = MatchOption r ((m : List ℕ) → ¬ Closed (Rows n w) (Rows n s) m) (StartIs w s n)

-- The answer of `show`.
pub record Drawn (w s : List ℕ) (n len : ℕ) (old new : List ℕ) : Type 0 where
  pub shown : Shown (Rows n w) (Rows n s) (take len new)
  pub rest : drop len new ≡ drop len old
