-- Names in the tables: which row has one.
use Rattle.std.specs.Prelude.{ℕ, Bool, true, false, ◌&&◌, cond, List, ltb, Option, Some, None}
use Rattle.rules.specs.declared.Message.{Message}
use Rattle.rules.specs.declared.Event.{Event}
use Rattle.rules.specs.declared.State.{State}
use Rattle.rules.specs.Numbers.{as_message}
use Rattle.text.specs.Parts.{is_same_text, first_index}
use Rattle.text.specs.Name.{name_text}
use Rattle.tables.specs.declared.Controller.{Controller}
use Rattle.tables.specs.declared.Controller.TheVariants.{Cache, Dir}
use Rattle.tables.specs.declared.MessageRow.{MessageRow}
use Rattle.tables.specs.declared.EventRow.{EventRow}
use Rattle.tables.specs.declared.StateRow.{StateRow}
use Rattle.tables.specs.declared.Tables.{Tables}
use Rattle.tables.specs.Tables.{messages_of_lem, events_of, states_of}

-- The row has this name.
abbrev pub message_named_lem : List ℕ → MessageRow → Bool
message_named_lem x r = is_same_text (name_text r.name) x

abbrev pub event_named_lem : List ℕ → EventRow → Bool
event_named_lem x r = is_same_text (name_text r.name) x

abbrev pub same_controller_lem : Controller → Controller → Bool
same_controller_lem Cache Cache = true
same_controller_lem Cache Dir = false
same_controller_lem Dir Cache = false
same_controller_lem Dir Dir = true

-- The row is a state of this controller and has this name.
abbrev pub state_named_lem : Controller → List ℕ → StateRow → Bool
state_named_lem c x r = same_controller_lem r.controller c && is_same_text (name_text r.name) x

-- The number of the message of this name, and the count of messages where it is not declared.
unfoldable pub message_at : Tables → List ℕ → ℕ
message_at t x = first_index (message_named_lem x) (messages_of_lem t)

unfoldable pub event_at_lem : Tables → List ℕ → ℕ
event_at_lem t x = first_index (event_named_lem x) (events_of t)

unfoldable pub state_at : Tables → Controller → List ℕ → ℕ
state_at t c x = first_index (state_named_lem c x) (states_of t)

-- The name is declared.
abbrev pub is_message : Tables → List ℕ → Bool
is_message t x = ltb (message_at t x) t.message_count

abbrev pub is_event : Tables → List ℕ → Bool
is_event t x = ltb (event_at_lem t x) t.event_count

abbrev pub is_state_name : Tables → Controller → List ℕ → Bool
is_state_name t c x = ltb (state_at t c x) t.state_count

-- What a search that ended at place i of n has found: the first row of that name, or nothing.
abbrev pub found : {A : Type 0} → (ℕ → A) → ℕ → ℕ → Option A
found at i n = cond (ltb i n) (Some (at i)) None

abbrev pub found_message : ℕ → ℕ → Option Message
found_message i n = found as_message i n

abbrev pub found_event : ℕ → ℕ → Option Event
found_event i n = found (λ j. record { 0 = j }) i n

abbrev pub found_state : ℕ → ℕ → Option State
found_state i n = found (λ j. record { 0 = j }) i n
