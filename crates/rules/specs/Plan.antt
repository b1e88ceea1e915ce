-- What a plan and a judgement print (01-scope.md, from "A mapping's networks" to "The shown cycle").
use Rattle.std.specs.Prelude.{ℕ, zero, suc, ◌+◌, ◌<◌, ◌≤◌, ◌≡◌, ◌⊎◌, List, [], ◌∷◌, ◌++◌, length}
use Rattle.rules.specs.Lists.{◌∈◌, Distinct, ◌≼◌}
use Rattle.rules.specs.Walks.{Rel, Chain, Begins}
use Rattle.rules.specs.Rules.{MessageNo, NetworkNo, Relations, Mapping, Waits, Queues, Step, Fit}

-- ---- the networks of a mapping, and the least count

-- "A mapping's networks are the different numbers it uses." There are k of them, over the messages 0 to n - 1.
pub record Uses (n : ℕ) (φ : Mapping) (k : ℕ) : Type 0 where
  pub networks : List NetworkNo
  pub distinct : Distinct networks
  pub each_listed : (m : MessageNo) → m < n → φ m ∈ networks
  pub each_used : (A : NetworkNo) → A ∈ networks → (m : MessageNo) × (m < n) × (φ m ≡ A)
  pub number : length networks ≡ k

-- "The least count is the fewest networks of any fit mapping."
pub record LeastCount (p : Relations) (k : ℕ) : Type 0 where
  pub mapping : Mapping
  pub fit : Fit p mapping
  pub uses : Uses p.count mapping k
  pub least : (φ : Mapping) (j : ℕ) → Fit p φ → Uses p.count φ j → k ≤ j

-- ---- waits chains, and the printed mapping

-- The longest chain of R that starts at m has h steps.
pub record Height (R : Rel) (m h : ℕ) : Type 0 where
  pub rest : List ℕ
  pub chain : Chain R m rest
  pub steps : length rest ≡ h
  pub longest : (l : List ℕ) → Chain R m l → length l ≤ h

-- The printed mapping. "A message's network is the number of waits steps on the longest waits chain that starts at it."
abbrev pub Printed : Relations → Mapping → Type 0
Printed p φ = (m : MessageNo) → m < p.count → Height (Waits p) m (φ m)

-- The longest waits chain has k messages. "A waits chain of one message counts 1."
pub record LongestChain (p : Relations) (k : ℕ) : Type 0 where
  pub start : MessageNo
  pub message : start < p.count
  pub rest : List MessageNo
  pub chain : Chain (Waits p) start rest
  pub messages : suc (length rest) ≡ k
  pub longest : (m : MessageNo) (l : List MessageNo) → m < p.count → Chain (Waits p) m l → suc (length l) ≤ k

-- ---- "the number of waits pairs"

-- k of the numbers below n have P.
abbrev pub Counts : (ℕ → Type 0) → ℕ → ℕ → Type 0
Counts P zero k = k ≡ 0
Counts P (suc n) k = ((j : ℕ) × P n × Counts P n j × (k ≡ suc j)) ⊎ ((¬ P n) × Counts P n k)

-- Of the pairs of R whose first number is below b and whose second is below n there are k.
abbrev pub Pairs : Rel → ℕ → ℕ → ℕ → Type 0
Pairs R n zero k = k ≡ 0
Pairs R n (suc b) k = (i : ℕ) × (j : ℕ) × Counts (R b) n i × Pairs R n b j × (k ≡ i + j)

-- There are k waits pairs.
abbrev pub WaitsPairs : Relations → ℕ → Type 0
WaitsPairs p = Pairs (Waits p) p.count p.count

-- ---- the shown cycle

-- ms is a closed walk: a step of S leads from each number of ms to the next, and from the last one back to the first. Its first step is one of W.
abbrev pub Closed : Rel → Rel → List ℕ → Type 0
Closed W S [] = ⊥
Closed W S (a ∷ l) = Begins W a (l ++ a ∷ []) × Chain S a (l ++ a ∷ [])

-- "Of all closed walks, written so that the first step is a waits step, take the shortest;
-- among those, the one whose list of message numbers is first in dictionary order."
pub record Shown (W S : Rel) (ms : List ℕ) : Type 0 where
  pub closed : Closed W S ms
  pub shortest : (l : List ℕ) → Closed W S l → length ms ≤ length l
  pub first : (l : List ℕ) → Closed W S l → length l ≡ length ms → ms ≼ l

-- "For a class 2 plan only waits steps are allowed."
abbrev pub PlanCycle : Relations → List MessageNo → Type 0
PlanCycle p = Shown (Waits p) (Waits p)

-- For an unfit mapping: waits and queues steps.
abbrev pub JudgeCycle : Relations → Mapping → List MessageNo → Type 0
JudgeCycle p φ = Shown (Waits p) (Step p φ)

-- ---- the word shown for a step

pub data Word : Type 0 where
  waits queues : Word

-- The word at the step from m to k. "A step that is both waits and queues is shown as waits."
abbrev pub Says : Relations → Mapping → MessageNo → Word → MessageNo → Type 0
Says p φ m waits k = Waits p m k
Says p φ m queues k = (¬ Waits p m k) × Queues p φ m k
