-- The protocol text that tables stand for: the header, then a line for each message, event, state and cell, in their order.
use Rattle.std.specs.Prelude.{ℕ, ◌≡◌, List, [], ◌∷◌, ◌++◌, map, get_or, take}
use Rattle.rules.specs.declared.Message.{Message}
use Rattle.text.specs.Name.{name_text}
use Rattle.text.specs.Words.{protocol_header, message_word, event_word, state_word, cell_word, req_word, fwd_word, data_word, ctl_word, cache_word, dir_word, stable_word, transient_word, stall_word, go_word, tab, newline}
use Rattle.tables.specs.declared.Kind.{Kind}
use Rattle.tables.specs.declared.Kind.TheVariants.{Req, Fwd, Data, Ctl}
use Rattle.tables.specs.declared.Controller.{Controller}
use Rattle.tables.specs.declared.Controller.TheVariants.{Cache, Dir}
use Rattle.tables.specs.declared.Stability.{Stability}
use Rattle.tables.specs.declared.Stability.TheVariants.{Stable, Transient}
use Rattle.tables.specs.declared.Trigger.{Trigger}
use Rattle.tables.specs.declared.Trigger.TheVariants.{Message as OnMessage, Event as OnEvent}
use Rattle.tables.specs.declared.Outcome.{Outcome}
use Rattle.tables.specs.declared.Outcome.TheVariants.{Stall, Go}
use Rattle.tables.specs.declared.MessageRow.{MessageRow}
use Rattle.tables.specs.declared.EventRow.{EventRow}
use Rattle.tables.specs.declared.StateRow.{StateRow}
use Rattle.tables.specs.declared.Cell.{Cell}
use Rattle.tables.specs.declared.Tables.{Tables}
use Rattle.tables.specs.Tables.{no_message_row, no_event_row, no_state_row, messages_of_lem, events_of, states_of, stored_of}
use Rattle.text.specs.Line.{Line}
use Rattle.protocol.specs.Reading.{read_protocol_lem}

-- ---- the fixed words

abbrev pub kind_word : Kind → List ℕ
kind_word Req = req_word
kind_word Fwd = fwd_word
kind_word Data = data_word
kind_word Ctl = ctl_word

abbrev pub controller_word : Controller → List ℕ
controller_word Cache = cache_word
controller_word Dir = dir_word

abbrev pub stability_word : Stability → List ℕ
stability_word Stable = stable_word
stability_word Transient = transient_word

-- ---- the names that a cell's numbers stand for

abbrev pub message_name_lem : Tables → Message → List ℕ
message_name_lem t m = name_text (get_or t.messages m.0 no_message_row).name

abbrev pub state_row : Tables → ℕ → StateRow
state_row t s = get_or t.states s no_state_row

abbrev pub trigger_name : Tables → Trigger → List ℕ
trigger_name t (OnMessage m) = message_name_lem t m
trigger_name t (OnEvent e) = name_text (get_or t.events e.0 no_event_row).name

-- ---- the fields of a record

-- `message` name type
unfoldable pub message_fields : MessageRow → Line
message_fields r = message_word ∷ (name_text r.name ∷ (kind_word r.kind ∷ []))

-- `event` name
unfoldable pub event_fields : EventRow → Line
event_fields r = event_word ∷ (name_text r.name ∷ [])

-- `state` controller name kind
unfoldable pub state_fields : StateRow → Line
state_fields r = state_word ∷ (controller_word r.controller ∷ (name_text r.name ∷ (stability_word r.stability ∷ [])))

-- `stall`; or `go` next, followed by the messages sent
abbrev pub outcome_fields : Tables → Outcome → List Message → Line
outcome_fields t Stall sent = stall_word ∷ []
outcome_fields t (Go s) sent = go_word ∷ (name_text (state_row t s.0).name ∷ map (message_name_lem t) sent)

-- `cell` controller state trigger, followed by the outcome
unfoldable pub cell_fields : Tables → Cell → Line
cell_fields t c =
    let own = state_row t c.state.0 in
    let sent = take c.sent_count c.sent in
    cell_word ∷ (controller_word own.controller ∷ (name_text own.name ∷ (trigger_name t c.trigger ∷ outcome_fields t c.outcome sent)))

-- The records, in the order of the sections.
unfoldable pub records : Tables → List Line
records t =
    map message_fields (messages_of_lem t) ++ (map event_fields (events_of t) ++ (map state_fields (states_of t) ++ map (cell_fields t) (stored_of t)))

-- ---- the text

-- Each of these fields behind a tab.
unfoldable pub tabs : Line → List ℕ
tabs [] = []
tabs (x ∷ f) = (tab ++ x) ++ tabs f

-- The line of these fields: a tab stands between two.
unfoldable pub tabbed : Line → List ℕ
tabbed [] = []
tabbed (x ∷ f) = x ++ tabs f

-- These lines, each ended by byte 10.
unfoldable pub ended : List (List ℕ) → List ℕ
ended [] = []
ended (l ∷ ls) = (l ++ newline) ++ ended ls

unfoldable pub protocol_text : Tables → List ℕ
protocol_text t = ended (protocol_header ∷ map tabbed (records t))

-- ---- what is known of it: what C-11 of 02-change-requests.md will ask of a writer, said of the texts and tables alone

-- C-11: "reading an accepted text and writing it must return the same bytes".
abbrev pub WrittenBack : Type 0
WrittenBack = (x : List ℕ) → (read_protocol_lem x).refusal.number ≡ 0 → x ≡ protocol_text (read_protocol_lem x).tables

-- C-11: "reading what was written must return the same tables".
abbrev pub ReadAgain : Type 0
ReadAgain = (x : List ℕ) → (read_protocol_lem x).refusal.number ≡ 0 → read_protocol_lem (protocol_text (read_protocol_lem x).tables) ≡ read_protocol_lem x

-- So two texts give the same tables only when they are the same text.
abbrev pub SameText : Type 0
SameText = (x y : List ℕ) → (read_protocol_lem x).refusal.number ≡ 0 → (read_protocol_lem y).refusal.number ≡ 0 → (read_protocol_lem x).tables ≡ (read_protocol_lem y).tables → x ≡ y
