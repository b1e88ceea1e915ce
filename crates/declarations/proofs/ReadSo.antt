-- What is left to be told of a line, by what was read before it, and the row that it stands for.
use Prim.Native.Nat.{ℕ, ◌+◌}
use mathlib.Core.Path.{◌≡◌, refl, ap, ap₂, ◌∙◌}
use mathlib.Core.Bool.{Bool, ◌||◌, or-false}
use mathlib.Core.List.{List}
use native.Mathlib.Omega.{arith}
use lib.ListN.{length}
use lib.Dec.{ltb, leb}
use borrow.Author.Tests.{le-ltb}
use Rattle.std.specs.Prelude.{Option, is_some}
use Rattle.rules.specs.declared.Message.{Message}
use Rattle.rules.specs.declared.Event.{Event}
use Rattle.rules.specs.declared.State.{State}
use Rattle.rules.specs.Numbers.{as_message}
use Rattle.tables.specs.declared.Controller.{Controller}
use Rattle.text.specs.Parts.{first_index}
use Rattle.text.specs.Line.{Line, field}
use Rattle.tables.specs.declared.MessageRow.{MessageRow}
use Rattle.tables.specs.declared.EventRow.{EventRow}
use Rattle.tables.specs.declared.StateRow.{StateRow}
use Rattle.tables.specs.declared.Tables.{Tables}
use Rattle.tables.specs.Tables.{messages_of_lem, events_of}
use Rattle.tables.specs.names.Names.{message_named_lem, event_named_lem, state_named_lem, message_at, event_at_lem, state_at, is_message, is_event, found_message, found_event, found_state}
use Rattle.lines.specs.Line.{message, event, state, controller_of}
use Rattle.declarations.specs.messages.Told.{OnlyMessages}
use Rattle.declarations.specs.events.Told.{MessagesEvents}
use Rattle.declarations.specs.states.Told.{States}
use Rattle.declarations.proofs.Lines.{in_rows, in_rows-by, Left}

-- ---- what the look-ups find

module _ {part x : List ℕ} {d : Bool} (same : part ≡ x) where
  pub message-in : (messages : List MessageRow) {r : Option Message} → r ≡ found_message (first_index (message_named_lem part) messages) (length messages) → d ≡ is_some r → d ≡ in_rows message_named_lem messages x
  message-in messages q w = in_rows-by as_message message_named_lem messages same q w

  pub event-in : (events : List EventRow) {r : Option Event} → r ≡ found_event (first_index (event_named_lem part) events) (length events) → d ≡ is_some r → d ≡ in_rows event_named_lem events x
  event-in events q w = in_rows-by (λ j. record { 0 = j }) event_named_lem events same q w

  pub state-in : (states : List StateRow) {k c : Controller} {r : Option State} → r ≡ found_state (first_index (state_named_lem k part) states) (length states) → d ≡ is_some r → k ≡ c
      → d ≡ in_rows (state_named_lem c) states x
  state-in states {k} q w e = in_rows-by (λ j. record { 0 = j }) (state_named_lem k) states same q w ∙ ap (λ (y : Controller). in_rows (state_named_lem y) states x) e

-- ---- what is left, by what was read before

is-message : (t : Tables) (x : List ℕ) (messages : List MessageRow) → messages_of_lem t ≡ messages → t.message_count ≡ length messages → is_message t x ≡ in_rows message_named_lem messages x
unfolding message_at
is-message t x messages p q = ap₂ (λ (l : List MessageRow) (n : ℕ). ltb (first_index (message_named_lem x) l) n) p q

is-event : (t : Tables) (x : List ℕ) (events : List EventRow) → events_of t ≡ events → t.event_count ≡ length events → is_event t x ≡ in_rows event_named_lem events x
unfolding event_at_lem
is-event t x events p q = ap₂ (λ (l : List EventRow) (n : ℕ). ltb (first_index (event_named_lem x) l) n) p q

module _ (t : Tables) (f : Line) where
  pub left-message : (messages : List MessageRow) → OnlyMessages t messages → Left message t f (in_rows message_named_lem messages (field f 1)) (leb 64 (length messages))
  left-message messages o =
      record {
        in_time = le-ltb 0 (t.event_count + t.state_count + t.cell_count) (omega (arith, o.no-event, o.no-state, o.no_cell));
        known = refl;
        declared = ap₂ (λ (x y : Bool). x || y) (is-message t (field f 1) messages o.rows o.many) (le-ltb (event_at_lem t (field f 1)) t.event_count (omega (arith, o.no-event)))
            ∙ or-false (in_rows message_named_lem messages (field f 1));
        no_room = ap (λ (n : ℕ). leb 64 n) o.many;
        no_stall = refl;
        no_conflict = refl;
      }

  pub left-event : (messages : List MessageRow) (events : List EventRow) → MessagesEvents t messages events
      → Left event t f (in_rows message_named_lem messages (field f 1) || in_rows event_named_lem events (field f 1)) (leb 8 (length events))
  left-event messages events o =
      record {
        in_time = le-ltb 0 (t.state_count + t.cell_count) (omega (arith, o.no-state, o.no_cell));
        known = refl;
        declared = ap₂ (λ (x y : Bool). x || y) (is-message t (field f 1) messages o.messages_are o.messages_many) (is-event t (field f 1) events o.rows o.many);
        no_room = ap (λ (n : ℕ). leb 8 n) o.many;
        no_stall = refl;
        no_conflict = refl;
      }

  pub left-state : (states : List StateRow) → States t states → Left state t f (in_rows (state_named_lem (controller_of (field f 1))) states (field f 2)) (leb 64 (length states))
  unfolding state_at
  left-state states o =
      record {
        in_time = le-ltb 0 t.cell_count (omega (arith, o.no_cell));
        known = refl;
        declared = ap₂ (λ (l : List StateRow) (n : ℕ). ltb (first_index (state_named_lem (controller_of (field f 1)) (field f 2)) l) n) o.rows o.many;
        no_room = ap (λ (n : ℕ). leb 64 n) o.many;
        no_stall = refl;
        no_conflict = refl;
      }
