-- What is told of an event's line, while messages and events were read.
use Rattle.std.specs.Prelude.{ℕ, ◌≡◌, List, length, Result}
use Rattle.papers.specs.declared.refused.Refused.{Refused}
use Rattle.tables.specs.declared.MessageRow.{MessageRow}
use Rattle.tables.specs.declared.EventRow.{EventRow}
use Rattle.tables.specs.declared.Tables.{Tables}
use Rattle.tables.specs.Tables.{messages_of_lem, events_of}
use Rattle.lines.specs.Line.{event_of}
use Rattle.declarations.specs.Told.{LineTold}

pub record MessagesEvents (t : Tables) (messages : List MessageRow) (events : List EventRow) : Type 0 where
  pub messages_are : messages_of_lem t ≡ messages
  pub messages_many : t.message_count ≡ length messages
  pub rows : events_of t ≡ events
  pub many : t.event_count ≡ length events
  pub no-state : t.state_count ≡ 0
  pub no_cell : t.cell_count ≡ 0

-- Of line k.
abbrev pub EventTold : ℕ → List ℕ → List MessageRow → List EventRow → Result EventRow Refused → Type 0
EventTold k line messages events r = LineTold (λ t. MessagesEvents t messages events) event_of k line r
