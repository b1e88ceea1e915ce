-- "Every program lends room for the longest answer within the limits." How long a plan's listing can be.
use Rattle.std.specs.Prelude.{ℕ, ◌≤◌, ◌≡◌, List, length}
use Rattle.protocol.specs.Reading.{read_protocol_lem}
use Rattle.answers.specs.declared.Answer.{Answer}
use Rattle.answers.specs.Answers.{Small}
use Rattle.plan.specs.Call.{PlanListing, PlanCall}

abbrev pub PlanLength : Type 0
PlanLength = (text listing : List ℕ) → (read_protocol_lem text).refusal.number ≡ 0 → PlanListing (read_protocol_lem text).tables listing → length listing ≤ 2078

-- So every number of an answer has its place in the packed number.
abbrev pub PlanSmall : Type 0
PlanSmall = (text old new : List ℕ) (r : Answer) → PlanCall text old new r → Small r
