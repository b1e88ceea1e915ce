-- The cells of the rules that a tables' value stands for, and when its numbers are in range.
use Rattle.std.specs.Prelude.{ℕ, ◌≤◌, ◌<◌, Bool, true, false, List, [], ◌∷◌, map, take, get_or}
use Rattle.rules.specs.declared.Message.{Message}
use Rattle.rules.specs.Lists.{◌∈◌}
use Rattle.rules.specs.Rules.{StateNo, Relations, of_cells, message, event, stall, go, Cell as RuleCell, Trigger as RuleTrigger, Outcome as RuleOutcome}
use Rattle.tables.specs.declared.Stability.{Stability}
use Rattle.tables.specs.declared.Stability.TheVariants.{Stable, Transient}
use Rattle.tables.specs.declared.Trigger.{Trigger}
use Rattle.tables.specs.declared.Trigger.TheVariants.{Message as OnMessage, Event as OnEvent}
use Rattle.tables.specs.declared.Outcome.{Outcome}
use Rattle.tables.specs.declared.Outcome.TheVariants.{Stall, Go}
use Rattle.tables.specs.declared.Cell.{Cell}
use Rattle.tables.specs.declared.Tables.{Tables}
use Rattle.tables.specs.Tables.{no_state_row, states_of, stored_of}

abbrev pub as_rule_trigger : Trigger → RuleTrigger
as_rule_trigger (OnMessage m) = message m.0
as_rule_trigger (OnEvent e) = event e.0

abbrev pub as_rule_outcome : Outcome → RuleOutcome
as_rule_outcome Stall = stall
as_rule_outcome (Go s) = go s.0

abbrev pub number : Message → ℕ
number m = m.0

-- The numbers of the messages that the cell sends: the first `sent_count` of its list.
unfoldable pub sent_numbers : Cell → List ℕ
sent_numbers c = map number (take c.sent_count c.sent)

abbrev pub as_rule_cell : Cell → RuleCell
as_rule_cell c = record { state = c.state.0; trigger = as_rule_trigger c.trigger; outcome = as_rule_outcome c.outcome; sent = sent_numbers c }

-- The cells that the tables stand for: the first `cell_count`.
unfoldable pub cells_of : Tables → List RuleCell
cells_of t = map as_rule_cell (stored_of t)

-- Whether a state is declared `transient`.
abbrev pub is_transient : Stability → Bool
is_transient Stable = false
is_transient Transient = true

-- Whether state number s is one that is declared `transient`.
unfoldable pub transient_of : Tables → StateNo → Bool
transient_of t s = is_transient (get_or (states_of t) s no_state_row).stability

-- The relations that rules 1 to 3 give for the tables.
abbrev pub relations_of_tables : Tables → Relations
relations_of_tables t = of_cells (transient_of t) (cells_of t) t.message_count

-- ---- numbers in range

-- Each element of the list has P.
unfoldable pub Each : {A : Type 0} → (A → Type 0) → List A → Type 0
Each P [] = Unit {0}
Each P (x ∷ xs) = P x × Each P xs

abbrev pub TriggerOk : ℕ → ℕ → Trigger → Type 0
TriggerOk messages events (OnMessage m) = m.0 < messages
TriggerOk messages events (OnEvent e) = e.0 < events

abbrev pub OutcomeOk : ℕ → Outcome → Type 0
OutcomeOk states Stall = Unit {0}
OutcomeOk states (Go s) = s.0 < states

-- The cell's numbers are those of declared messages, events and states.
pub record CellOk (messages events states : ℕ) (c : Cell) : Type 0 where
  pub few : c.sent_count ≤ 8
  pub own : c.state.0 < states
  pub trigger : TriggerOk messages events c.trigger
  pub next : OutcomeOk states c.outcome
  pub sent : (b : ℕ) → b ∈ sent_numbers c → b < messages

-- The counts are within the limits, and the numbers in the cells within the counts.
pub record TablesOk (t : Tables) : Type 0 where
  pub messages : t.message_count ≤ 64
  pub events : t.event_count ≤ 8
  pub states : t.state_count ≤ 64
  pub few : t.cell_count ≤ 512
  pub cells : Each (CellOk t.message_count t.event_count t.state_count) (stored_of t)
