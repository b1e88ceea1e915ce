-- The plan that the relations call answers (01-scope.md, "Relations call"), and the plan of rows of waits, from which it is made.
use Rattle.std.specs.Prelude.{ℕ, suc, ◌<◌, ◌≡◌, ◌⊎◌, List, length, get_or}
use Rattle.rules.specs.Rules.{Relations}
use Rattle.rules.specs.Plan.{Height, Shown, LeastCount, Printed, WaitsPairs, PlanCycle}
use Rattle.rows.specs.Rows.{Rows, of_rows}
use Rattle.rows.specs.Joins.{joins}
use Rattle.waits.specs.Waiting.{RowPairs}
use Rattle.text.specs.Written.{Wrote}
use Rattle.relations.specs.declared.answer.RelationsAnswer.{RelationsAnswer}

-- ---- by the rules

-- "Class 3 returns the least count and length n, and writes n network bytes."
pub record Class3 (p : Relations) (bytes : List ℕ) (networks : ℕ) : Type 0 where
  pub long : length bytes ≡ p.count
  pub printed : Printed p (λ m. get_or bytes m 0)
  pub least : LeastCount p networks

-- "Class 2 returns count 0 and the cycle's length, and writes its message numbers, a byte each."
pub record Class2 (p : Relations) (bytes : List ℕ) (networks : ℕ) : Type 0 where
  pub none : networks ≡ 0
  pub cycle : PlanCycle p bytes

-- The plan of n messages whose relations the rows of causes and stalls give. The lent bytes are `old` at entry and `new` at exit.
-- "Both also return the number of waits pairs", and by C-23 "the number of row joins in closing causes", which "equals the definition's count".
pub record RelationsPlanned (n : ℕ) (causes stalls old new : List ℕ) (r : RelationsAnswer) : Type 0 where
  pub written : List ℕ
  pub wrote : Wrote written old new r.length
  pub class : Class3 (of_rows n causes stalls) written r.networks ⊎ Class2 (of_rows n causes stalls) written r.networks
  pub waits_pairs : WaitsPairs (of_rows n causes stalls) r.pairs
  pub row_joins : r.joins ≡ joins n causes
  pub number_0 : r.number ≡ 0
  pub needed_0 : r.needed ≡ 0

-- ---- of rows of waits, before the rules come in

-- The heights, and one more than the greatest of them.
pub record Ranked (n : ℕ) (rows bytes : List ℕ) (networks : ℕ) : Type 0 where
  pub long : length bytes ≡ n
  pub heights : (m : ℕ) → m < n → Height (Rows n rows) m (get_or bytes m 0)
  pub below : (m : ℕ) → m < n → get_or bytes m 0 < networks
  pub greatest : (m : ℕ) × (m < n) × (suc (get_or bytes m 0) ≡ networks)

-- The shown cycle.
pub record Cycled (n : ℕ) (rows bytes : List ℕ) (networks : ℕ) : Type 0 where
  pub none : networks ≡ 0
  pub shown : Shown (Rows n rows) (Rows n rows) bytes

-- The joins are told as they are given: they were counted while the rows were made.
pub record WaitsPlan (n : ℕ) (rows : List ℕ) (joins : ℕ) (old new : List ℕ) (r : RelationsAnswer) : Type 0 where
  pub written : List ℕ
  pub wrote : Wrote written old new r.length
  pub class : Ranked n rows written r.networks ⊎ Cycled n rows written r.networks
  pub row_pairs : RowPairs n rows r.pairs
  pub row_joins : r.joins ≡ joins
  pub number_0 : r.number ≡ 0
  pub needed_0 : r.needed ≡ 0
