-- What is told of a message's line, while only messages were read.
use Rattle.std.specs.Prelude.{ℕ, ◌≡◌, List, length, Result}
use Rattle.papers.specs.declared.refused.Refused.{Refused}
use Rattle.tables.specs.declared.MessageRow.{MessageRow}
use Rattle.tables.specs.declared.Tables.{Tables}
use Rattle.tables.specs.Tables.{messages_of_lem}
use Rattle.lines.specs.Line.{message_of}
use Rattle.declarations.specs.Told.{LineTold}

pub record OnlyMessages (t : Tables) (messages : List MessageRow) : Type 0 where
  pub rows : messages_of_lem t ≡ messages
  pub many : t.message_count ≡ length messages
  pub no-event : t.event_count ≡ 0
  pub no-state : t.state_count ≡ 0
  pub no_cell : t.cell_count ≡ 0

-- Of line k.
abbrev pub MessageTold : ℕ → List ℕ → List MessageRow → Result MessageRow Refused → Type 0
MessageTold k line messages r = LineTold (λ t. OnlyMessages t messages) message_of k line r
