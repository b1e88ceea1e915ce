-- The cell of a line with `stall`, from the place that it names.
use Prim.Native.Nat.{◌≤◌}
use mathlib.Core.Path.{◌≡◌}
use mathlib.Core.Bool.{Bool}
use mathlib.Core.List.{[]}
use native.Mathlib.Omega.{arith}
use lib.ListN.{length, get_or, drop_of_length-le}
use Rattle.std.specs.Prelude.{Ok}
use Rattle.tables.specs.declared.Controller.{Controller}
use Rattle.tables.specs.declared.Outcome.TheVariants.{Stall}
use Rattle.tables.specs.declared.Tables.{Tables}
use Rattle.tables.specs.Tables.{no_state_row, states_of}
use Rattle.text.specs.Line.{Line}
use Rattle.lines.specs.Line.{sent_fields, sent_of_lem, cell_of}
use Rattle.lines.specs.Checks.{is_stable, in_stable_lem}
use Rattle.cells.specs.shapes.Shape.{StallLine}
use Rattle.cells.specs.declared.places.Place.{Place}
use Rattle.cells.specs.places.Place.{PlaceTold}
use Rattle.cells.specs.readings.Known.{CellRead}
use Rattle.cells.proofs.targets.Sending.{no_messages}
use Rattle.cells.proofs.readings.Whole.{at_place}

module _ (f : Line) (whose : Controller) (t : Tables) (p : Place) (told : PlaceTold f whose t (Ok p)) where
  pub stalling : StallLine f whose → (b : Bool) → b ≡ is_stable (get_or (states_of t) p.state.0 no_state_row).stability
      → CellRead f t (Ok (record { stuck = b; cell = record { state = p.state; trigger = p.trigger; outcome = Stall; sent = no_messages; sent_count = 0 } }))
  unfolding in_stable_lem cell_of sent_of_lem
  stalling s b e =
      let a = at_place f t p (rw s.is at told) in
      let none : sent_fields f ≡ [] = drop_of_length-le f {i = 6} (let h : length f ≤ 6 = omega (arith, s.long) in h) in
      rw (e, a.0, a.1, s.word, none)
