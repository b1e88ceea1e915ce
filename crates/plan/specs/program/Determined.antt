-- What the contract leaves open: nothing.
use Rattle.std.specs.Prelude.{ℕ, List}
use Rattle.determined.specs.Determined.{DeterminesLent}
use Rattle.plan.specs.program.Printed.{PlanPrinted}

-- What the planning program prints is one thing.
abbrev pub PlanPrintedDetermined : Type 0
PlanPrintedDetermined = (text old : List ℕ) → DeterminesLent (PlanPrinted text old)
