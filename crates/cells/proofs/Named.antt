-- Names as the tables know them, from what the look-ups answer.
use Prim.Native.Nat.{ℕ}
use mathlib.Core.Path.{◌≡◌, refl, ◌∙◌}
use mathlib.Core.Bool.{Bool, true, false, cond}
use mathlib.Core.List.{List}
use lib.ListN.{length}
use Rattle.std.specs.Prelude.{Some, None}
use Rattle.rules.specs.declared.Message.{Message}
use Rattle.rules.specs.declared.State.{State}
use Rattle.text.specs.Parts.{first_index}
use Rattle.tables.specs.declared.Controller.{Controller}
use Rattle.tables.specs.declared.MessageRow.{MessageRow}
use Rattle.tables.specs.declared.EventRow.{EventRow}
use Rattle.tables.specs.declared.StateRow.{StateRow}
use Rattle.tables.specs.declared.Tables.{Tables}
use Rattle.tables.specs.Tables.{messages_of_lem, events_of, states_of}
use Rattle.tables.specs.names.Names.{message_named_lem, event_named_lem, state_named_lem, message_at, event_at_lem, state_at, is_message, is_state_name, found_message, found_event, found_state}
use Rattle.lines.specs.Line.{message_no}

-- what an answer tells that is given where a test holds
module _ {A : Type 0} where
  pub some-is : (b : Bool) (x y : A) → Some y ≡ cond b (Some x) None → (b ≡ true) × (y ≡ x)
  some-is true x y e = (refl, cc)
  some-is false x y e = cc

  pub none-is : (b : Bool) (x : A) → None ≡ cond b (Some x) None → b ≡ false
  none-is true x e = cc
  none-is false x e = refl

-- what was found among the rows that the tables lend
module _ (t : Tables) (x : List ℕ) where
  module _ (rows : List MessageRow) (are : rows ≡ messages_of_lem t) (many : length rows ≡ t.message_count) where
    same-message : found_message (first_index (message_named_lem x) rows) (length rows) ≡ found_message (message_at t x) t.message_count
    unfolding message_at
    same-message = rw (many, are)

    pub message-known : (m : Message) → Some m ≡ found_message (first_index (message_named_lem x) rows) (length rows)
        → (is_message t x ≡ true) × (m ≡ message_no t x)
    message-known m e = some-is (is_message t x) (message_no t x) m (e ∙ same-message)

    pub message-unknown : None ≡ found_message (first_index (message_named_lem x) rows) (length rows) → is_message t x ≡ false
    message-unknown e = none-is (is_message t x) (message_no t x) (e ∙ same-message)

  module _ (rows : List EventRow) (are : rows ≡ events_of t) (many : length rows ≡ t.event_count) where
    pub same-event : found_event (first_index (event_named_lem x) rows) (length rows) ≡ found_event (event_at_lem t x) t.event_count
    unfolding event_at_lem
    same-event = rw (many, are)

  module _ (whose : Controller) (rows : List StateRow) (are : rows ≡ states_of t) (many : length rows ≡ t.state_count) where
    same-state : found_state (first_index (state_named_lem whose x) rows) (length rows) ≡ found_state (state_at t whose x) t.state_count
    unfolding state_at
    same-state = rw (many, are)

    pub state-known : (s : State) → Some s ≡ found_state (first_index (state_named_lem whose x) rows) (length rows)
        → (is_state_name t whose x ≡ true) × (s ≡ record { 0 = state_at t whose x })
    state-known s e = some-is (is_state_name t whose x) (record { 0 = state_at t whose x }) s (e ∙ same-state)

    pub state-unknown : None ≡ found_state (first_index (state_named_lem whose x) rows) (length rows) → is_state_name t whose x ≡ false
    state-unknown e = none-is (is_state_name t whose x) (record { 0 = state_at t whose x }) (e ∙ same-state)
