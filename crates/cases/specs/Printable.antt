-- What the program knows of an answer: the tables of a protocol that is not refused have their numbers in range.
use Rattle.std.specs.Prelude.{Result, IfOk}
use Rattle.papers.specs.declared.refused.Refused.{Refused}
use Rattle.tables.specs.declared.Tables.{Tables}
use Rattle.tables.specs.Cells.{TablesOk}

abbrev pub Printable : Result Tables Refused → Type 0
Printable r = IfOk r TablesOk
