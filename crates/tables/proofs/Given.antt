-- Tables with these parts.
use Prim.Native.Nat.{ℕ}
use mathlib.Core.List.{List}
use Rattle.tables.specs.declared.MessageRow.{MessageRow}
use Rattle.tables.specs.declared.EventRow.{EventRow}
use Rattle.tables.specs.declared.StateRow.{StateRow}
use Rattle.tables.specs.declared.Cell.{Cell}
use Rattle.tables.specs.declared.Tables.{Tables}

module _
    (messages : List MessageRow) (message-count : ℕ) (events : List EventRow) (event-count : ℕ) (states : List StateRow) (state-count : ℕ)
    (cells : List Cell) (count : ℕ) where
  abbrev pub given : Tables
  given =
      record {
        messages = messages;
        events = events;
        states = states;
        cells = cells;
        message_count = message-count;
        event_count = event-count;
        state_count = state-count;
        cell_count = count;
      }
