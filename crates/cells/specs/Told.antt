-- What is told of a cell's line: the cell it stands for, or how it is refused.
use Rattle.std.specs.Prelude.{ℕ, ◌≡◌, true, List, Result, IfOk}
use Rattle.text.specs.Parts.{split}
use Rattle.tables.specs.declared.Cell.{Cell}
use Rattle.tables.specs.declared.Tables.{Tables}
use Rattle.papers.specs.declared.refused.Refused.{Refused}
use Rattle.papers.specs.refused.Refused.{refusal_of}
use Rattle.papers.specs.Checks.{first_of}
use Rattle.text.specs.Line.{Line}
use Rattle.lines.specs.Line.{cell, cell_of}
use Rattle.lines.specs.Checks.{shaped, known_cell, stall_in_stable, section_checks}
use Rattle.lines.specs.Told.{Refuses}
use Rattle.cells.specs.declared.readings.CellReading.{CellReading}

-- Of line k, after t was read.
pub record CellTold (k : ℕ) (line : List ℕ) (t : Tables) (r : Result Cell Refused) : Type 0 where
  pub told : Refuses t k line (refusal_of r)
  pub cell : IfOk r (λ c. c ≡ cell_of t (split 9 line))

-- ---- a line that is shaped, and all of whose names are known, by what was read of it

-- What was read is what the line's fields say after t.
pub record ReadAs (t : Tables) (f : Line) (at : CellReading) : Type 0 where
  pub shape : shaped cell f ≡ true
  pub known : known_cell t f ≡ true
  pub stuck : at.stuck ≡ stall_in_stable cell t f
  pub cell : at.cell ≡ cell_of t f

-- Line k by the checks of a cell's line, whatever line this was read of.
pub record CellJudged (at : CellReading) (k : ℕ) (t : Tables) (r : Result Cell Refused) : Type 0 where
  pub told : (f : Line) → ReadAs t f at → first_of (section_checks cell t k f) ≡ refusal_of r
  pub cell : IfOk r (λ c. c ≡ at.cell)
