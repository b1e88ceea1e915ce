-- `relations::row_bytes::Table::load` meets its contract.
use Rattle.rows.proofs.FillingRows.{FillingRows}
use Rattle.relations.proofs.row_bytes.RowLaws.{IsRow}
use Rattle.relations.proofs.row_bytes.Table.load.Given as goal

abbrev pub invariant-loop-i : goal.invariant-loop-i
invariant-loop-i g l = FillingRows (IsRow g.row.SIZE l.self.n l.self.bytes.now) l.self.n l.initial.rows l.rows l.i
