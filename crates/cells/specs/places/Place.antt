-- Where a cell stands: the state and the trigger that its line names.
use Rattle.std.specs.Prelude.{ℕ, ◌≡◌, Bool, ◌&&◌, cond, List, Option, Some, None, Result}
use Rattle.tables.specs.declared.Controller.{Controller}
use Rattle.tables.specs.declared.Trigger.{Trigger}
use Rattle.tables.specs.declared.Tables.{Tables}
use Rattle.tables.specs.names.Names.{state_at, is_state_name}
use Rattle.text.specs.Line.{Line, field}
use Rattle.papers.specs.declared.refused.Field.{Field}
use Rattle.lines.specs.Line.{trigger_of}
use Rattle.lines.specs.Checks.{is_trigger, place_names}
use Rattle.cells.specs.Names.{known_or_field}
use Rattle.cells.specs.declared.places.Place.{Place}

abbrev pub found_trigger : Bool → Trigger → Option Trigger
found_trigger b k = cond b (Some k) None

abbrev pub TriggerTold : List ℕ → Controller → Tables → Option Trigger → Type 0
TriggerTold x whose t r = r ≡ found_trigger (is_trigger t whose x) (trigger_of t x)

abbrev pub named_place : Tables → Controller → Line → Place
named_place t whose f = record { state = record { 0 = state_at t whose (field f 2) }; trigger = trigger_of t (field f 3) }

abbrev pub PlaceTold : Line → Controller → Tables → Result Place Field → Type 0
PlaceTold f whose t r =
    r ≡ known_or_field (is_state_name t whose (field f 2) && is_trigger t whose (field f 3)) (named_place t whose f) (place_names t whose f)
