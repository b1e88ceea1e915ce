-- What the planning call leaves open: nothing.
use Rattle.std.specs.Prelude.{ℕ, List, Result}
use Rattle.determined.specs.Determined.{DeterminesLent}
use Rattle.answers.specs.declared.unlisted.Unlisted.{Unlisted}
use Rattle.answers.specs.unlisted.Unlisted.{answer_of}
use Rattle.plan.specs.Call.{PlanCall}

-- Two answers that the contract allows are equal, and so are the lent bytes.
abbrev pub PlanDetermined : Type 0
PlanDetermined = (text old : List ℕ) → DeterminesLent (PlanCall text old)

-- The contract sees the result of the call by its answer in numbers. Two results whose answers it allows are equal too, and so are the lent bytes.
abbrev pub PlanResultDetermined : Type 0
PlanResultDetermined = (text old : List ℕ) → DeterminesLent (λ (new : List ℕ) (result : Result ℕ Unlisted). PlanCall text old new (answer_of result))
