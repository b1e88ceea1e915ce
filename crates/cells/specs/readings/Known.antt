-- The cell that a line stands for, where all that its fields name is declared and allowed there.
use Rattle.std.specs.Prelude.{◌≡◌, Result}
use Rattle.tables.specs.declared.Tables.{Tables}
use Rattle.text.specs.Line.{Line}
use Rattle.papers.specs.declared.refused.Field.{Field}
use Rattle.lines.specs.Line.{cell, cell_of}
use Rattle.lines.specs.Checks.{known_cell, cell_names, stall_in_stable}
use Rattle.cells.specs.Names.{known_or_field}
use Rattle.cells.specs.declared.readings.CellReading.{CellReading}

abbrev pub named_reading : Tables → Line → CellReading
named_reading t f = record { stuck = stall_in_stable cell t f; cell = cell_of t f }

abbrev pub CellRead : Line → Tables → Result CellReading Field → Type 0
CellRead f t r = r ≡ known_or_field (known_cell t f) (named_reading t f) (cell_names t f)
