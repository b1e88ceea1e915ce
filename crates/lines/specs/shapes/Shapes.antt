-- What the fixed words of a shaped line say, and which field is told of one that is not.
use Rattle.std.specs.Prelude.{cond, Result, Ok, Err, ⊤}
use Rattle.text.specs.Line.{Line, field}
use Rattle.papers.specs.declared.refused.Field.{Field}
use Rattle.tables.specs.declared.Kind.{Kind}
use Rattle.tables.specs.declared.Controller.{Controller}
use Rattle.tables.specs.declared.Stability.{Stability}
use Rattle.lines.specs.Line.{Section, message, event, state, kind_of, controller_of, stability_of}
use Rattle.lines.specs.Checks.{shaped, shape_field}

-- What the words of a shaped line say, and else the field that 4 SHAPE tells.
abbrev pub shape_told : {A : Type 0} → Section → Line → A → Result A Field
shape_told s f words = cond (shaped s f) (Ok words) (Err (record { 0 = shape_field s f }))

-- `message` name type
unfoldable pub message_shape_lem : Line → Result Kind Field
message_shape_lem f = shape_told message f (kind_of (field f 2))

-- `event` name
unfoldable pub event_shape_lem : Line → Result ⊤ Field
event_shape_lem f = shape_told event f tt

-- `state` controller name kind
unfoldable pub state_shape_lem : Line → Result (Controller × Stability) Field
state_shape_lem f = shape_told state f (controller_of (field f 1), stability_of (field f 3))
