-- The relations call (01-scope.md, "Relations call" and "Refusal numbers"). The lent bytes are `old` at entry and `new` at exit.
use Rattle.std.specs.Prelude.{ℕ, ◌≡◌, ◌≢◌, List, length}
use Rattle.relations.specs.declared.answer.RelationsAnswer.{RelationsAnswer}
use Rattle.relations.specs.row_bytes.RowBytes.{rows_of_bytes}
use Rattle.relations.specs.checks.CallChecks.{relations_refusal, refused_relations}
use Rattle.relations.specs.plans.Plans.{RelationsPlanned}

-- "A refusal returns number, paper, line and length 0, and no output byte changes."
pub record RelationsRefused (number n : ℕ) (old new : List ℕ) (r : RelationsAnswer) : Type 0 where
  pub answer : r ≡ refused_relations number n
  pub bytes : new ≡ old

-- "Inputs: a count n and two byte tables, causes and stalls." A row has `size` bytes, and there are at most `most` messages.
pub record RelationsCall (size most n : ℕ) (causes stalls old new : List ℕ) (r : RelationsAnswer) : Type 0 where
  pub refused : (relations_refusal size most n causes stalls (length old)).number ≢ 0
      → RelationsRefused (relations_refusal size most n causes stalls (length old)).number n old new r
  pub planned : (relations_refusal size most n causes stalls (length old)).number ≡ 0
      → RelationsPlanned n (rows_of_bytes size n causes) (rows_of_bytes size n stalls) old new r
