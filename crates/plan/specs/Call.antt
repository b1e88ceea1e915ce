-- The planning call (01-scope.md, "Two listings, whole" and "Refusal numbers").
use Rattle.std.specs.Prelude.{ℕ, ◌≡◌, ◌⊎◌, ◌≢◌, List, length, get_or}
use Rattle.rules.specs.Rules.{MessageNo, NetworkNo, Relations}
use Rattle.rules.specs.Plan.{LeastCount, Printed, PlanCycle}
use Rattle.tables.specs.declared.MessageRow.{MessageRow}
use Rattle.tables.specs.declared.Tables.{Tables}
use Rattle.tables.specs.Tables.{messages_of_lem}
use Rattle.tables.specs.Cells.{relations_of_tables}
use Rattle.protocol.specs.Reading.{read_protocol_lem}
use Rattle.answers.specs.declared.Answer.{Answer}
use Rattle.answers.specs.Answers.{Refused, Listed}
use Rattle.plan_listing.specs.PlanText.{class_three, class_two}

-- ---- the listings that the rules allow

-- Class 3: the least count, and name and network of each message by the printed mapping.
pub record Three (messages : List MessageRow) (p : Relations) (listing : List ℕ) : Type 0 where
  pub networks : List NetworkNo
  pub count : ℕ
  pub long : length networks ≡ p.count
  pub printed : Printed p (λ m. get_or networks m 0)
  pub least : LeastCount p count
  pub is : listing ≡ class_three messages networks count

-- Class 2: the names of the shown cycle, of waits steps only.
pub record Two (messages : List MessageRow) (p : Relations) (listing : List ℕ) : Type 0 where
  pub cycle : List MessageNo
  pub shown : PlanCycle p cycle
  pub is : listing ≡ class_two messages cycle

-- The plan of a protocol's tables, by the relations that rules 1 to 4 give for them.
abbrev pub PlanListing : Tables → List ℕ → Type 0
PlanListing t listing = Three (messages_of_lem t) (relations_of_tables t) listing ⊎ Two t.messages (relations_of_tables t) listing

-- Such a listing was to be written to the lent bytes, which are `old` at entry and `new` at exit.
pub record PlanWritten (t : Tables) (old new : List ℕ) (r : Answer) : Type 0 where
  pub listing : List ℕ
  pub allowed : PlanListing t listing
  pub listed : Listed listing old new r

-- ---- the call

-- "A plan's protocol is paper 0." The order: 1 to 13 as the text is read, then 16.
pub record PlanCall (text old new : List ℕ) (r : Answer) : Type 0 where
  pub refused : (read_protocol_lem text).refusal.number ≢ 0 → Refused (read_protocol_lem text).refusal 0 old new r
  pub planned : (read_protocol_lem text).refusal.number ≡ 0 → PlanWritten (read_protocol_lem text).tables old new r
