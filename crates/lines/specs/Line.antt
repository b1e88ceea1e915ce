-- One line of a protocol text (01-scope.md, "The protocol text"): what its fields say. A line is the list of its fields.
use Rattle.std.specs.Prelude.{ℕ, ◌-◌, Bool, true, ◌||◌, cond, List, ◌++◌, map, length, drop, replicate}
use Rattle.rules.specs.declared.Message.{Message}
use Rattle.text.specs.Parts.{is_same_text}
use Rattle.text.specs.Line.{Line, field, says}
use Rattle.text.specs.Name.{name_of_lem}
use Rattle.text.specs.Words.{message_word, event_word, state_word, cell_word, req_word, fwd_word, data_word, ctl_word, cache_word, dir_word, stable_word, transient_word, stall_word}
use Rattle.tables.specs.declared.Kind.{Kind}
use Rattle.tables.specs.declared.Kind.TheVariants.{Req, Fwd, Data, Ctl}
use Rattle.tables.specs.declared.Controller.{Controller}
use Rattle.tables.specs.declared.Controller.TheVariants.{Cache, Dir}
use Rattle.tables.specs.declared.Stability.{Stability}
use Rattle.tables.specs.declared.Stability.TheVariants.{Stable, Transient}
use Rattle.tables.specs.declared.Trigger.{Trigger}
use Rattle.tables.specs.declared.Trigger.TheVariants.{Message as OnMessage, Event as OnEvent}
use Rattle.tables.specs.declared.Outcome.{Outcome}
use Rattle.tables.specs.declared.Outcome.TheVariants.{Stall, Go}
use Rattle.tables.specs.declared.MessageRow.{MessageRow}
use Rattle.tables.specs.declared.EventRow.{EventRow}
use Rattle.tables.specs.declared.StateRow.{StateRow}
use Rattle.tables.specs.declared.Cell.{Cell}
use Rattle.tables.specs.declared.Tables.{Tables}
use Rattle.tables.specs.names.Names.{message_at, event_at_lem, state_at, is_message}

-- ---- the four sections, by the first field

pub data Section : Type 0 where
  message event state cell unknown : Section

unfoldable pub section_of : Line → Section
section_of f =
    cond (says f 0 message_word) message
    (cond (says f 0 event_word) event
    (cond (says f 0 state_word) state
    (cond (says f 0 cell_word) cell unknown)))

-- Which of the four a section is picked by.
abbrev pub picked_by : Section → Bool → Bool → Bool → Bool → Bool
picked_by message a b c d = a
picked_by event a b c d = b
picked_by state a b c d = c
picked_by cell a b c d = d
picked_by unknown a b c d = true

-- The line has the word of this section.
abbrev pub says_of : Section → Line → Bool
says_of s f = picked_by s (says f 0 message_word) (says f 0 event_word) (says f 0 state_word) (says f 0 cell_word)

-- ---- fixed words

-- "Type is `req`, `fwd`, `data` or `ctl`."
abbrev pub is_kind : List ℕ → Bool
is_kind x = is_same_text x req_word || (is_same_text x fwd_word || (is_same_text x data_word || is_same_text x ctl_word))

abbrev pub kind_of : List ℕ → Kind
kind_of x = cond (is_same_text x req_word) Req (cond (is_same_text x fwd_word) Fwd (cond (is_same_text x data_word) Data Ctl))

-- "Controller is `cache` or `dir`; kind is `stable` or `transient`."
abbrev pub is_controller : List ℕ → Bool
is_controller x = is_same_text x cache_word || is_same_text x dir_word

abbrev pub controller_of : List ℕ → Controller
controller_of x = cond (is_same_text x cache_word) Cache Dir

abbrev pub is_stability : List ℕ → Bool
is_stability x = is_same_text x stable_word || is_same_text x transient_word

abbrev pub stability_of : List ℕ → Stability
stability_of x = cond (is_same_text x stable_word) Stable Transient

-- ---- what a line stands for

-- `message` name type
unfoldable pub message_of : Line → MessageRow
message_of f = record { name = name_of_lem (field f 1); kind = kind_of (field f 2) }

-- `event` name
unfoldable pub event_of : Line → EventRow
event_of f = record { name = name_of_lem (field f 1) }

-- `state` controller name kind
unfoldable pub state_of : Line → StateRow
state_of f = record { name = name_of_lem (field f 2); controller = controller_of (field f 1); stability = stability_of (field f 3) }

-- "A trigger is a message, or on `cache` also an event."
abbrev pub trigger_of : Tables → List ℕ → Trigger
trigger_of t x = cond (is_message t x) (OnMessage (record { 0 = message_at t x })) (OnEvent (record { 0 = event_at_lem t x }))

abbrev pub message_no : Tables → List ℕ → Message
message_no t x = record { 0 = message_at t x }

-- `cell` controller state trigger `stall`; or `cell` controller state trigger `go` next, followed by 0 to 8 messages sent
abbrev pub cell_controller : Line → Controller
cell_controller f = controller_of (field f 1)

abbrev pub outcome_of : Tables → Line → Outcome
outcome_of t f = cond (says f 4 stall_word) Stall (Go (record { 0 = state_at t (cell_controller f) (field f 5) }))

abbrev pub sent_fields : Line → List (List ℕ)
sent_fields f = drop 6 f

-- The messages with these names, behind which the list is as cleared.
abbrev pub sent_from : Tables → List (List ℕ) → List Message
sent_from t xs = map (message_no t) xs ++ replicate (8 - length xs) (record { 0 = 0 })

unfoldable pub sent_of_lem : Tables → Line → List Message
sent_of_lem t f = sent_from t (sent_fields f)

unfoldable pub cell_of : Tables → Line → Cell
cell_of t f =
    record {
      state = record { 0 = state_at t (cell_controller f) (field f 2) };
      trigger = trigger_of t (field f 3);
      outcome = outcome_of t f;
      sent = sent_of_lem t f;
      sent_count = length (sent_fields f);
    }
