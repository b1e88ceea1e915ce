-- The promises about the rules themselves, demands 2 and 3, as statements. proofs/Promises.antt has a term of each type.
use Rattle.std.specs.Prelude.{ℕ, ◌<◌, ◌≤◌, ◌≡◌, Bool, ◌⊎◌, ◌↔◌, List, length}
use Rattle.rules.specs.Rules.{MessageNo, StateNo, Cell, NoEntryDirectly, NoEntry, Relations, of_cells, of_cells_directly, Mapping, Step, Unfit, Fit, NetUnfit, WaitsCycle}
use Rattle.rules.specs.Plan.{Uses, LeastCount, Printed, LongestChain, WaitsPairs, PlanCycle, JudgeCycle, Word, Says}

-- Relations as an accepted protocol gives them: there is a message, the pairs are pairs of messages, and whether a pair is in a relation can be told.
pub record Accepted (p : Relations) : Type 0 where
  pub some_message : 0 < p.count
  pub causes_messages : (a b : MessageNo) → p.causes a b → (a < p.count) × (b < p.count)
  pub stalls_messages : (a b : MessageNo) → p.stalls a b → (a < p.count) × (b < p.count)
  pub causes? : (a b : MessageNo) → Dec (p.causes a b)
  pub stalls? : (a b : MessageNo) → Dec (p.stalls a b)

-- ---- demand 2: "A plan or judgement says what those relations say, down to which cycle is shown."

-- Every mapping is fit, or unfit with a cycle to show.
abbrev pub EveryJudgement : Type 1
EveryJudgement =
    (p : Relations) → Accepted p → (φ : Mapping) →
    Fit p φ ⊎ (Unfit p φ × (ms : List MessageNo) × JudgeCycle p φ ms × (length ms ≤ p.count))

-- A cycle is shown only where there is one.
abbrev pub ShownIsReal : Type 1
ShownIsReal =
    (p : Relations) →
    ((ms : List MessageNo) → PlanCycle p ms → WaitsCycle p) × ((φ : Mapping) (ms : List MessageNo) → JudgeCycle p φ ms → Unfit p φ)

-- Each step that is shown has a word.
abbrev pub EveryWord : Type 1
EveryWord = (p : Relations) → Accepted p → (φ : Mapping) (m k : MessageNo) → Step p φ m k → (w : Word) × Says p φ m w k

-- The waits pairs can be counted.
abbrev pub EveryCount : Type 1
EveryCount = (p : Relations) → Accepted p → (k : ℕ) × WaitsPairs p k

-- What is printed is determined: the rules allow only one of each.
pub record Determined : Type 1 where
  pub least_count : (p : Relations) (j k : ℕ) → LeastCount p j → LeastCount p k → j ≡ k
  pub networks : (n : ℕ) (φ : Mapping) (j k : ℕ) → Uses n φ j → Uses n φ k → j ≡ k
  pub mapping : (p : Relations) (φ ψ : Mapping) → Printed p φ → Printed p ψ → (m : MessageNo) → m < p.count → φ m ≡ ψ m
  pub plan_cycle : (p : Relations) (l m : List MessageNo) → PlanCycle p l → PlanCycle p m → l ≡ m
  pub judge_cycle : (p : Relations) (φ : Mapping) (l m : List MessageNo) → JudgeCycle p φ l → JudgeCycle p φ m → l ≡ m
  pub word : (p : Relations) (φ : Mapping) (m k : MessageNo) (v w : Word) → Says p φ m v k → Says p φ m w k → v ≡ w
  pub waits_pairs : (p : Relations) (j k : ℕ) → WaitsPairs p j → WaitsPairs p k → j ≡ k

-- ---- demand 3

-- "Judging by the networks alone equals judging by the walks."
abbrev pub SameVerdict : Type 1
SameVerdict = (p : Relations) → Accepted p → (φ : Mapping) → Unfit p φ ↔ NetUnfit p φ

-- "With one [a waits cycle], no mapping is fit."
abbrev pub CycleIsUnfit : Type 1
CycleIsUnfit = (p : Relations) → WaitsCycle p → (φ : Mapping) → Unfit p φ

-- "Without a waits cycle the printed number is reached by the printed mapping, no fit mapping has fewer networks,
-- and it equals the messages on the longest waits chain."
pub record GoodPlan (p : Relations) : Type 0 where
  pub number : ℕ
  pub mapping : Mapping
  pub printed : Printed p mapping
  pub fit : Fit p mapping
  pub reached : Uses p.count mapping number
  pub none_fewer : (φ : Mapping) (j : ℕ) → Fit p φ → Uses p.count φ j → number ≤ j
  pub chain : LongestChain p number
  -- "The least count is the fewest networks of any fit mapping": the number is it.
  pub least : LeastCount p number
  -- No number is larger than there are messages to need it.
  pub small : number ≤ p.count
  pub networks_small : (m : MessageNo) → m < p.count → mapping m < p.count

-- Every accepted protocol is of class 2, with a cycle to show, or of class 3, with a plan.
abbrev pub EveryPlan : Type 1
EveryPlan =
    (p : Relations) → Accepted p →
    (WaitsCycle p × (ms : List MessageNo) × PlanCycle p ms × (length ms ≤ p.count)) ⊎ ((¬ WaitsCycle p) × GoodPlan p)

-- And never of both: where a cycle of waits can be shown there is no least count.
abbrev pub OneClass : Type 1
OneClass = (p : Relations) (ms : List MessageNo) (k : ℕ) → PlanCycle p ms → ¬ LeastCount p k

-- Whatever mapping and number the rules allow to be printed, they keep the promise of class 3.
abbrev pub EveryPrinted : Type 1
EveryPrinted =
    (p : Relations) → Accepted p → (φ : Mapping) (k : ℕ) → Printed p φ → LeastCount p k →
    Fit p φ × Uses p.count φ k × LongestChain p k

-- ---- more stalls pairs

-- q has the messages and the causes of p, and every stalls pair of p.
pub record Stricter (p q : Relations) : Type 0 where
  pub same_count : q.count ≡ p.count
  pub same_causes : (a b : MessageNo) → q.causes a b ↔ p.causes a b
  pub more_stalls : (a b : MessageNo) → p.stalls a b → q.stalls a b

-- "The other never needs fewer networks, and class 2 stays class 2."
abbrev pub NeverFewer : Type 1
NeverFewer = (p q : Relations) → Stricter p q → ((j k : ℕ) → LeastCount p j → LeastCount q k → j ≤ k) × (WaitsCycle p → WaitsCycle q)

-- And a mapping that is fit with more stalls pairs is fit with fewer.
abbrev pub StillFit : Type 1
StillFit = (p q : Relations) → Stricter p q → (φ : Mapping) → Fit q φ → Fit p φ

-- ---- what C-12 changes

-- "Every old pair remains": the mended rule is stricter than the old one. "Some class 3 protocols become class 2" (a case of our own), and none goes back.
abbrev pub OldPairsRemain : Type 0
OldPairsRemain = (transient : StateNo → Bool) (cells : List Cell) (n : ℕ) → Stricter (of_cells_directly cells n) (of_cells transient cells n)

-- A cell that 13 did not refuse is still not refused by it.
abbrev pub OldEntriesRemain : Type 0
OldEntriesRemain = (transient : StateNo → Bool) (cells : List Cell) (c : Cell) → NoEntry transient cells c → NoEntryDirectly cells c
