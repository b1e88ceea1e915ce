-- What the contract leaves open: nothing.
use Rattle.std.specs.Prelude.{ℕ, List}
use Rattle.determined.specs.Determined.{DeterminesLent}
use Rattle.judge.specs.program.Printed.{JudgePrinted}

-- What the judging program prints is one thing.
abbrev pub JudgePrintedDetermined : Type 0
JudgePrintedDetermined = (protocol mapping old : List ℕ) → DeterminesLent (JudgePrinted protocol mapping old)
