-- What is known of a line's cell from the place that it names.
use Prim.Native.Nat.{ℕ}
use mathlib.Core.Path.{◌≡◌, refl}
use mathlib.Core.Bool.{Bool, true, false, not, ◌&&◌, ◌||◌, cond}
use mathlib.Core.List.{List, [], ◌∷◌}
use Rattle.std.specs.Prelude.{Ok, Err}
use Rattle.text.specs.Words.{stall_word}
use Rattle.papers.specs.declared.refused.Field.{Field}
use Rattle.papers.specs.Fields.{Looked, looked, first_bad_field}
use Rattle.tables.specs.declared.Controller.{Controller}
use Rattle.tables.specs.declared.Tables.{Tables}
use Rattle.tables.specs.names.Names.{is_state_name}
use Rattle.text.specs.Line.{Line, field, says}
use Rattle.lines.specs.Line.{cell_controller, sent_fields}
use Rattle.lines.specs.Checks.{is_trigger, all_messages, known_cell, place_names, go_names, cell_names}
use Rattle.cells.specs.Names.{known_or_field}
use Rattle.cells.specs.declared.places.Place.{Place}
use Rattle.cells.specs.places.Place.{named_place, PlaceTold}
use Rattle.cells.specs.readings.Known.{named_reading, CellRead}
use Rattle.cells.proofs.Names.{ok-known, err-unknown}

-- ---- two names and what follows

module _ {A : Type 0} (j k : ℕ) (rest : Bool) (x : A) (names : List Looked) where
  -- where one of the two is not known, what follows is not asked for
  not-two : (a b : Bool) → (a && b) ≡ false
      → Err (record { 0 = first_bad_field (looked j (not a) ∷ looked k (not b) ∷ []) }) ≡ known_or_field (a && (b && rest)) x (looked j (not a) ∷ looked k (not b) ∷ names)
  unfolding first_bad_field
  not-two true true e = cc
  not-two true false e = refl
  not-two false b e = refl

  -- where both are, it is what is left
  both-known : (a b : Bool) → (a && b) ≡ true → known_or_field (a && (b && rest)) x (looked j (not a) ∷ looked k (not b) ∷ names) ≡ known_or_field rest x names
  unfolding first_bad_field
  both-known true true e = refl
  both-known true false e = cc
  both-known false b e = cc

-- ---- a cell's line

module _ (f : Line) (t : Tables) where
  abbrev whose : Controller
  whose = cell_controller f

  -- what a line names behind its place
  abbrev rest : Bool
  rest = says f 4 stall_word || (is_state_name t whose (field f 5) && all_messages t (sent_fields f))

  abbrev names : List Looked
  names = cond (says f 4 stall_word) [] (go_names t whose f)

  pub not-placed : (k : Field) → PlaceTold f whose t (Err k) → CellRead f t (Err k)
  not-placed k e =
      let u = err-unknown (named_place t whose f) (place_names t whose f) (is_state_name t whose (field f 2) && is_trigger t whose (field f 3)) k e in
      rw u.1 (not-two 3 4 rest (named_reading t f) names (is_state_name t whose (field f 2)) (is_trigger t whose (field f 3)) u.0)

  pub at_place : (p : Place) → PlaceTold f whose t (Ok p) → (p ≡ named_place t whose f) × (known_or_field (known_cell t f) (named_reading t f) (cell_names t f) ≡ known_or_field rest (named_reading t f) names)
  at_place p e =
      let u = ok-known (named_place t whose f) (place_names t whose f) (is_state_name t whose (field f 2) && is_trigger t whose (field f 3)) p e in
      (u.1, both-known 3 4 rest (named_reading t f) names (is_state_name t whose (field f 2)) (is_trigger t whose (field f 3)) u.0)
