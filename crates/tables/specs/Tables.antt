-- The tables' value: cleared, and with one row more.
use Rattle.std.specs.Prelude.{◌+◌, ◌-◌, ◌≡◌, List, [], take, drop, set, replicate}
use Rattle.text.specs.Name.{name_of_lem}
use Rattle.tables.specs.declared.Kind.TheVariants.{Req}
use Rattle.tables.specs.declared.Controller.TheVariants.{Cache}
use Rattle.tables.specs.declared.Stability.TheVariants.{Stable}
use Rattle.tables.specs.declared.Trigger.TheVariants.{Message as OnMessage}
use Rattle.tables.specs.declared.Outcome.TheVariants.{Stall}
use Rattle.tables.specs.declared.MessageRow.{MessageRow}
use Rattle.tables.specs.declared.EventRow.{EventRow}
use Rattle.tables.specs.declared.StateRow.{StateRow}
use Rattle.tables.specs.declared.Cell.{Cell}
use Rattle.tables.specs.declared.Tables.{Tables}

-- The rows that tables are cleared to.
abbrev pub no_message_row : MessageRow
no_message_row = record { name = name_of_lem []; kind = Req }

abbrev pub no_event_row : EventRow
no_event_row = record { name = name_of_lem [] }

abbrev pub no_state_row : StateRow
no_state_row = record { name = name_of_lem []; controller = Cache; stability = Stable }

abbrev pub no_cell_lem : Cell
no_cell_lem =
    record {
      state = record { 0 = 0 };
      trigger = OnMessage (record { 0 = 0 });
      outcome = Stall;
      sent = replicate 8 (record { 0 = 0 });
      sent_count = 0;
    }

-- "Tables start out cleared to these full sizes."
unfoldable pub cleared_tables : Tables
cleared_tables =
    record {
      messages = replicate 64 no_message_row;
      events = replicate 8 no_event_row;
      states = replicate 64 no_state_row;
      cells = replicate 512 no_cell_lem;
      message_count = 0;
      event_count = 0;
      state_count = 0;
      cell_count = 0;
    }

-- What has been stored, in the order of the file.
abbrev pub messages_of_lem : Tables → List MessageRow
messages_of_lem t = take t.message_count t.messages

abbrev pub events_of : Tables → List EventRow
events_of t = take t.event_count t.events

abbrev pub states_of : Tables → List StateRow
states_of t = take t.state_count t.states

abbrev pub stored_of : Tables → List Cell
stored_of t = take t.cell_count t.cells

-- The tables with one message more; all else is as it was.
unfoldable pub with_message : Tables → MessageRow → Tables
with_message t row =
    record {
      messages = set t.messages t.message_count row;
      events = t.events;
      states = t.states;
      cells = t.cells;
      message_count = t.message_count + 1;
      event_count = t.event_count;
      state_count = t.state_count;
      cell_count = t.cell_count;
    }

-- The tables with one event more.
unfoldable pub with_event : Tables → EventRow → Tables
with_event t row =
    record {
      messages = t.messages;
      events = set t.events t.event_count row;
      states = t.states;
      cells = t.cells;
      message_count = t.message_count;
      event_count = t.event_count + 1;
      state_count = t.state_count;
      cell_count = t.cell_count;
    }

-- The tables with one state more.
unfoldable pub with_state : Tables → StateRow → Tables
with_state t row =
    record {
      messages = t.messages;
      events = t.events;
      states = set t.states t.state_count row;
      cells = t.cells;
      message_count = t.message_count;
      event_count = t.event_count;
      state_count = t.state_count + 1;
      cell_count = t.cell_count;
    }

-- The tables with one cell more.
unfoldable pub with_cell : Tables → Cell → Tables
with_cell t c =
    record {
      messages = t.messages;
      events = t.events;
      states = t.states;
      cells = set t.cells t.cell_count c;
      message_count = t.message_count;
      event_count = t.event_count;
      state_count = t.state_count;
      cell_count = t.cell_count + 1;
    }

-- What is past a count is as cleared.
pub record ClearedPast (t : Tables) : Type 0 where
  pub messages : drop t.message_count t.messages ≡ replicate (64 - t.message_count) no_message_row
  pub events : drop t.event_count t.events ≡ replicate (8 - t.event_count) no_event_row
  pub states : drop t.state_count t.states ≡ replicate (64 - t.state_count) no_state_row
  pub cells : drop t.cell_count t.cells ≡ replicate (512 - t.cell_count) no_cell_lem
