-- The trigger and the place that a line names, from what the look-ups answer.
use mathlib.Core.Path.{◌≡◌}
use mathlib.Core.Bool.{true, false}
use mathlib.Core.List.{List}
use Prim.Native.Nat.{ℕ}
use Rattle.std.specs.Prelude.{Option, Some, None, Ok, Err, MatchOption, IsSomeAnd}
use Rattle.tables.specs.declared.Controller.{Controller}
use Rattle.tables.specs.declared.Controller.TheVariants.{Cache, Dir}
use Rattle.tables.specs.declared.Trigger.{Trigger}
use Rattle.tables.specs.declared.Trigger.TheVariants.{Message as OnMessage, Event as OnEvent}
use Rattle.tables.specs.declared.Tables.{Tables}
use Rattle.tables.specs.names.Names.{state_at, event_at_lem, is_message, is_event, is_state_name, found_event}
use Rattle.rules.specs.declared.Message.{Message}
use Rattle.rules.specs.declared.Event.{Event}
use Rattle.rules.specs.declared.State.{State}
use Rattle.text.specs.Line.{Line, field}
use Rattle.lines.specs.Line.{message_no, trigger_of}
use Rattle.lines.specs.Checks.{is_trigger}
use Rattle.papers.specs.Fields.{first_bad_field}
use Rattle.cells.specs.places.Place.{TriggerTold, PlaceTold}
use Rattle.cells.proofs.Named.{some-is, none-is}

-- ---- triggers

module _ (t : Tables) (x : List ℕ) where
  pub on-message : (whose : Controller) (m : Message) → (is_message t x ≡ true) × (m ≡ message_no t x) → TriggerTold x whose t (Some (OnMessage m))
  on-message whose m k = rw (k.0, k.1)

  module _ (k : is_message t x ≡ false) where
    pub on-dir : TriggerTold x Dir t None
    on-dir = rw k

    -- the event that was found, made a trigger
    pub on-event : (e : Option Event) → e ≡ found_event (event_at_lem t x) t.event_count → (r : Option Trigger)
        → MatchOption e (r ≡ None) (λ n. IsSomeAnd r (λ w. w ≡ OnEvent n)) → TriggerTold x Cache t r
    on-event None q r h = rw (h, k, none-is (is_event t x) (record { 0 = event_at_lem t x }) q)
    on-event (Some n) q None h = elim h [ ]
    on-event (Some n) q (Some w) h = let s = some-is (is_event t x) (record { 0 = event_at_lem t x }) n q in rw (h, k, s.0, s.1)

-- ---- places

module _ (f : Line) (whose : Controller) (t : Tables) where
  pub no-state : is_state_name t whose (field f 2) ≡ false → PlaceTold f whose t (Err (record { 0 = 3 }))
  unfolding first_bad_field
  no-state a = rw a

  module _ (s : State) (a : (is_state_name t whose (field f 2) ≡ true) × (s ≡ record { 0 = state_at t whose (field f 2) })) where
    pub no-trigger : TriggerTold (field f 3) whose t None → PlaceTold f whose t (Err (record { 0 = 4 }))
    unfolding first_bad_field
    no-trigger e = rw (a.0, none-is (is_trigger t whose (field f 3)) (trigger_of t (field f 3)) e)

    pub placed : (k : Trigger) → TriggerTold (field f 3) whose t (Some k) → PlaceTold f whose t (Ok (record { state = s; trigger = k }))
    placed k e = let b = some-is (is_trigger t whose (field f 3)) (trigger_of t (field f 3)) k e in rw (a.0, b.0, a.1, b.1)
