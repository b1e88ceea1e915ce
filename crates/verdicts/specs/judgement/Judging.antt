-- The judgement that rows of waits and steps give.
use Rattle.std.specs.Prelude.{ℕ, ◌<◌, ◌≡◌, ◌↔◌, List, get_or}
use Rattle.rules.specs.Rules.{MessageNo, Mapping, Step}
use Rattle.rows.specs.Rows.{Bit}
use Rattle.tables.specs.declared.Tables.{Tables}
use Rattle.tables.specs.Cells.{relations_of_tables, TablesOk}
use Rattle.verdicts.specs.declared.JudgementFound.{JudgementFound}
use Rattle.verdicts.specs.Verdicts.{WaitsOf, JudgementIs}

-- Bit k of row m says that a step leads from m to k.
abbrev pub StepsTold : Tables → Mapping → List ℕ → Type 0
StepsTold t φ steps = (m k : MessageNo) → m < t.message_count → Bit (get_or steps m 0) k ↔ Step (relations_of_tables t) φ m k

-- r is the judgement for all tables with n messages, and all mappings, whose rows of waits and steps these are.
abbrev pub JudgementOfRows : List ℕ → List ℕ → ℕ → JudgementFound → Type 0
JudgementOfRows waits steps n r =
    (t : Tables) (φ : Mapping) → TablesOk t → 0 < n → t.message_count ≡ n → WaitsOf (relations_of_tables t) waits → StepsTold t φ steps
    → JudgementIs (relations_of_tables t) φ r
