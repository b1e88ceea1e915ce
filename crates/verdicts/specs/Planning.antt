-- The plan that rows of waits give.
use Rattle.std.specs.Prelude.{ℕ, ◌<◌, ◌≡◌, List}
use Rattle.tables.specs.declared.Tables.{Tables}
use Rattle.tables.specs.Cells.{relations_of_tables, TablesOk}
use Rattle.verdicts.specs.declared.PlanFound.{PlanFound}
use Rattle.verdicts.specs.Verdicts.{WaitsOf, PlanIs}

-- r is the plan of all tables with n messages whose rows of waits these are.
abbrev pub PlanOfRows : List ℕ → ℕ → PlanFound → Type 0
PlanOfRows waits n r = (t : Tables) → TablesOk t → 0 < n → t.message_count ≡ n → WaitsOf (relations_of_tables t) waits → PlanIs (relations_of_tables t) r
