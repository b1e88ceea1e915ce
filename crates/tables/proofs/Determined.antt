-- Each public contract determines what the function gives back.
use mathlib.Core.Path.{◌≡◌}
use Rattle.determined.specs.Determined.{Determines}
use Rattle.determined.proofs.Equal.{equal}
use Rattle.tables.specs.declared.Cell.{Cell}
use Rattle.tables.specs.declared.Tables.{Tables}
use Rattle.tables.specs.Tables.{no_cell_lem, cleared_tables, messages_of_lem, events_of, states_of, stored_of}
use Prim.Native.Nat.{ℕ}
use mathlib.Core.Bool.{Bool}
use mathlib.Core.List.{List}
use lib.ListN.{length}
use Rattle.tables.specs.Clash.{any_clash_lem}
use Rattle.text.specs.Parts.{first_index}
use Rattle.tables.specs.declared.MessageRow.{MessageRow}
use Rattle.tables.specs.declared.EventRow.{EventRow}
use Rattle.std.specs.Prelude.{Option}
use Rattle.rules.specs.declared.Message.{Message}
use Rattle.rules.specs.declared.Event.{Event}
use Rattle.rules.specs.declared.State.{State}
use Rattle.tables.specs.names.Names.{message_named_lem, event_named_lem, found_message, found_event, state_named_lem, found_state}
use Rattle.tables.specs.declared.Controller.{Controller}
use Rattle.tables.specs.declared.StateRow.{StateRow}

pub no-cell-determined : Determines (λ (r : Cell). r ≡ no_cell_lem)
no-cell-determined = equal _

pub cleared-determined : Determines (λ (r : Tables). r ≡ cleared_tables)
cleared-determined = equal _

pub messages-determined : (t : Tables) → Determines (λ (r : List MessageRow). r ≡ messages_of_lem t)
messages-determined t = equal _

pub events-determined : (t : Tables) → Determines (λ (r : List EventRow). r ≡ events_of t)
events-determined t = equal _

pub states-determined : (t : Tables) → Determines (λ (r : List StateRow). r ≡ states_of t)
states-determined t = equal _

pub cells-determined : (t : Tables) → Determines (λ (r : List Cell). r ≡ stored_of t)
cells-determined t = equal _

pub any-clash-determined : (cells : List Cell) (c : Cell) → Determines (λ (r : Bool). r ≡ any_clash_lem c cells)
any-clash-determined cells c = equal _

pub message-named-determined : (rows : List MessageRow) (x : List ℕ) → Determines (λ (r : Option Message). r ≡ found_message (first_index (message_named_lem x) rows) (length rows))
message-named-determined rows x = equal _

pub event-named-determined : (rows : List EventRow) (x : List ℕ) → Determines (λ (r : Option Event). r ≡ found_event (first_index (event_named_lem x) rows) (length rows))
event-named-determined rows x = equal _

pub state-named-determined : (rows : List StateRow) (c : Controller) (x : List ℕ) → Determines (λ (r : Option State). r ≡ found_state (first_index (state_named_lem c x) rows) (length rows))
state-named-determined rows c x = equal _
