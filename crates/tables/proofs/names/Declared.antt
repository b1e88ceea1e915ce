-- What it means for a reader that a name is declared in the tables, or is not.
use mathlib.Core.Path.{◌≡◌}
use mathlib.Core.Bool.{true}
use mathlib.Core.List.{List}
use Prim.Native.Nat.{ℕ, ◌≤◌}
use lib.ListN.{length}
use borrow.Author.Tests.{ltb-true}
use Rattle.tables.specs.declared.Controller.{Controller}
use Rattle.tables.specs.declared.MessageRow.{MessageRow}
use Rattle.tables.specs.declared.EventRow.{EventRow}
use Rattle.tables.specs.declared.StateRow.{StateRow}
use Rattle.tables.specs.declared.Tables.{Tables}
use Rattle.tables.specs.names.Names.{message_named_lem, event_named_lem, state_named_lem, message_at, event_at_lem, state_at, is_message, is_event, is_state_name}
use Rattle.tables.proofs.names.Look.{First, first_found}

module _ (t : Tables) (x : List ℕ) where
  module _ (d : MessageRow) (long : t.message_count ≤ length t.messages) where
    -- the message at its number has the name, and none before it
    pub message-declared : is_message t x ≡ true → First (message_named_lem x) t.messages t.message_count d (message_at t x)
    unfolding message_at
    message-declared e = first_found (message_named_lem x) t.messages t.message_count d long (ltb-true (message_at t x) t.message_count e)

  module _ (d : EventRow) (long : t.event_count ≤ length t.events) where
    pub event-declared : is_event t x ≡ true → First (event_named_lem x) t.events t.event_count d (event_at_lem t x)
    unfolding event_at_lem
    event-declared e = first_found (event_named_lem x) t.events t.event_count d long (ltb-true (event_at_lem t x) t.event_count e)

  module _ (c : Controller) (d : StateRow) (long : t.state_count ≤ length t.states) where
    pub state-declared : is_state_name t c x ≡ true → First (state_named_lem c x) t.states t.state_count d (state_at t c x)
    unfolding state_at
    state-declared e = first_found (state_named_lem c x) t.states t.state_count d long (ltb-true (state_at t c x) t.state_count e)
