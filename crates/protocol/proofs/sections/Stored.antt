-- One line of each section, stored behind what was read before it.
use Prim.Native.Nat.{ℕ, ◌+◌, ◌<◌}
use mathlib.Core.Path.{◌≡◌, refl, sym, ap, subst}
use mathlib.Core.Bool.{true, false}
use mathlib.Core.List.{List}
use native.Mathlib.Omega.{arith}
use lib.ListN.{length}
use borrow.Author.Tests.{leb-false, ltb-false}
use Rattle.std.specs.Prelude.{Ok}
use Rattle.text.specs.Parts.{split}
use Rattle.papers.specs.Checks.{none}
use Rattle.tables.specs.declared.MessageRow.{MessageRow}
use Rattle.tables.specs.declared.EventRow.{EventRow}
use Rattle.tables.specs.declared.StateRow.{StateRow}
use Rattle.tables.specs.declared.Cell.{Cell}
use Rattle.tables.specs.declared.Tables.{Tables}
use Rattle.tables.specs.Tables.{messages_of_lem, events_of, states_of, with_message, with_event, with_state, with_cell}
use Rattle.lines.specs.Line.{Section, message, event, state, cell, says_of}
use Rattle.lines.specs.Checks.{later_read}
use Rattle.lines.specs.Told.{Refuses}
use Rattle.declarations.specs.messages.Told.{OnlyMessages, MessageTold}
use Rattle.declarations.specs.events.Told.{MessagesEvents, EventTold}
use Rattle.declarations.specs.states.Told.{States, StateTold}
use Rattle.cells.specs.Told.{CellTold}
use Rattle.cells.proofs.InRange.{cell-ok}
use Rattle.protocol.specs.declared.sections.Section.{Section as CodeSection}
use Rattle.protocol.specs.declared.sections.Section.TheVariants.{Message, Event, State, Cell as OfCell}
use Rattle.protocol.specs.whole.Kept.{Kept}
use Rattle.protocol.specs.sections.Sections.{section_lem}
use Rattle.protocol.specs.sections.Told.{LineStored}
use Rattle.protocol.proofs.sections.Going.{of_section}
use Rattle.protocol.proofs.sections.Passed.{Passed, line-passed}
use Rattle.protocol.proofs.sections.Kept.{kept-message, kept-event, kept-state, kept-cell}

module _ (k : ℕ) (line : List ℕ) (t : Tables) (kept : Kept t) where
  -- a line that is not refused passes the checks of its section
  passed : (c : CodeSection) → says_of (section_lem c) (split 9 line) ≡ true → Refuses t k line none → Passed (section_lem c) t (split 9 line)
  passed c w told = subst (λ (s : Section). Passed s t (split 9 line)) (of_section c (split 9 line) w) (line-passed t k line none told refl)

  -- ---- a message

  module _ (ms : List MessageRow) (rows : ms ≡ messages_of_lem t) (many : length ms ≡ t.message_count) (w : says_of message (split 9 line) ≡ true)
      (order : later_read message t ≡ false) where
    pub only : OnlyMessages t ms
    only =
        let z = ltb-false 0 (t.event_count + t.state_count + t.cell_count) order in
        record { rows = sym rows; many = sym many; no-event = omega arith; no-state = omega arith; no_cell = omega arith }

    module _ (row : MessageRow) (m : MessageTold k line ms (Ok row)) where
      pub message-room : t.message_count < 64
      message-room = omega (arith, leb-false 64 t.message_count (passed Message w (m.told t only)).room)

      pub message-stored : LineStored message k line t (with_message t row) (Ok tt)
      message-stored = record { told = m.told t only; stored = (ap (with_message t) m.row, kept-message t kept row message-room); unmoved = tt }

  -- ---- an event

  module _ (ms : List MessageRow) (es : List EventRow) (messages : ms ≡ messages_of_lem t) (messages-many : length ms ≡ t.message_count)
      (rows : es ≡ events_of t) (many : length es ≡ t.event_count) (w : says_of event (split 9 line) ≡ true)
      (order : later_read event t ≡ false) where
    pub messages-events : MessagesEvents t ms es
    messages-events =
        let z = ltb-false 0 (t.state_count + t.cell_count) order in
        record { messages_are = sym messages; messages_many = sym messages-many; rows = sym rows; many = sym many; no-state = omega arith; no_cell = omega arith }

    module _ (row : EventRow) (m : EventTold k line ms es (Ok row)) where
      pub event-room : t.event_count < 8
      event-room = omega (arith, leb-false 8 t.event_count (passed Event w (m.told t messages-events)).room)

      pub event-stored : LineStored event k line t (with_event t row) (Ok tt)
      event-stored = record { told = m.told t messages-events; stored = (ap (with_event t) m.row, kept-event t kept row event-room); unmoved = tt }

  -- ---- a state

  module _ (ss : List StateRow) (rows : ss ≡ states_of t) (many : length ss ≡ t.state_count) (w : says_of state (split 9 line) ≡ true)
      (order : later_read state t ≡ false) where
    pub states : States t ss
    states =
        let z = ltb-false 0 t.cell_count order in
        record { rows = sym rows; many = sym many; no_cell = omega arith }

    module _ (row : StateRow) (m : StateTold k line ss (Ok row)) where
      pub state-room : t.state_count < 64
      state-room = omega (arith, leb-false 64 t.state_count (passed State w (m.told t states)).room)

      pub state-stored : LineStored state k line t (with_state t row) (Ok tt)
      state-stored = record { told = m.told t states; stored = (ap (with_state t) m.row, kept-state t kept row state-room); unmoved = tt }

  -- ---- a cell

  module _ (w : says_of cell (split 9 line) ≡ true) (row : Cell) (m : CellTold k line t (Ok row)) where
    pub cell_room : t.cell_count < 512
    cell_room = omega (arith, leb-false 512 t.cell_count (passed OfCell w m.told).room)

    pub cell_stored : LineStored cell k line t (with_cell t row) (Ok tt)
    cell_stored = record { told = m.told; stored = (ap (with_cell t) m.cell, kept-cell t kept row cell_room (cell-ok k line t row w m)); unmoved = tt }
