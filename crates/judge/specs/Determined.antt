-- What the judging call leaves open: nothing.
use Rattle.std.specs.Prelude.{ℕ, List, Result}
use Rattle.determined.specs.Determined.{DeterminesLent}
use Rattle.answers.specs.declared.unlisted.Unlisted.{Unlisted}
use Rattle.answers.specs.unlisted.Unlisted.{answer_of}
use Rattle.judge.specs.Call.{JudgeCall}

-- Two answers that the contract allows are equal, and so are the lent bytes.
abbrev pub JudgeDetermined : Type 0
JudgeDetermined = (protocol mapping old : List ℕ) → DeterminesLent (JudgeCall protocol mapping old)

-- The contract sees the result of the call by its answer in numbers. Two results whose answers it allows are equal too, and so are the lent bytes.
abbrev pub JudgeResultDetermined : Type 0
JudgeResultDetermined =
    (protocol mapping old : List ℕ) → DeterminesLent (λ (new : List ℕ) (result : Result ℕ Unlisted). JudgeCall protocol mapping old new (answer_of result))
