-- The cell of a line with `go`, from the place that it names and where it goes to.
use mathlib.Core.Bool.{Bool, false, ◌&&◌}
use Rattle.std.specs.Prelude.{Ok, Err}
use Rattle.papers.specs.declared.refused.Field.{Field}
use Rattle.tables.specs.declared.Controller.{Controller}
use Rattle.tables.specs.declared.Outcome.TheVariants.{Go}
use Rattle.tables.specs.declared.Tables.{Tables}
use Rattle.tables.specs.names.Names.{is_state_name}
use Rattle.text.specs.Line.{Line, field}
use Rattle.lines.specs.Line.{cell_controller, sent_fields, sent_of_lem, cell_of}
use Rattle.lines.specs.Checks.{all_messages, go_names}
use Rattle.cells.specs.shapes.Shape.{GoLine}
use Rattle.cells.specs.declared.places.Place.{Place}
use Rattle.cells.specs.places.Place.{PlaceTold}
use Rattle.cells.specs.declared.targets.Target.{Target}
use Rattle.cells.specs.targets.Target.{named_target, TargetTold}
use Rattle.cells.specs.readings.Known.{CellRead}
use Rattle.cells.proofs.Names.{ok-known, err-unknown}
use Rattle.cells.proofs.readings.Whole.{at_place}

module _ (f : Line) (whose : Controller) (t : Tables) (s : GoLine f whose) (p : Place) (told : PlaceTold f whose t (Ok p)) where
  abbrev known : Bool
  known = is_state_name t (cell_controller f) (field f 5) && all_messages t (sent_fields f)

  pub not-targeted : (k : Field) → TargetTold f whose t (Err k) → CellRead f t (Err k)
  not-targeted k to =
      let a = at_place f t p (rw s.is at told) in
      let u = err-unknown (named_target t (cell_controller f) f) (go_names t (cell_controller f) f) known k (rw s.is at to) in
      rw (a.1, s.word, u.0, u.1)

  pub going : (g : Target) → TargetTold f whose t (Ok g)
      → CellRead f t (Ok (record { stuck = false; cell = record { state = p.state; trigger = p.trigger; outcome = Go g.next; sent = g.sent.sent; sent_count = g.sent.count } }))
  unfolding cell_of sent_of_lem
  going g to =
      let a = at_place f t p (rw s.is at told) in
      let u = ok-known (named_target t (cell_controller f) f) (go_names t (cell_controller f) f) known g (rw s.is at to) in
      rw (a.0, a.1, s.word, u.0, u.1)
