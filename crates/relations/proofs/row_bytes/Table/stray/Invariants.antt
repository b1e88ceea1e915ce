-- `relations::row_bytes::Table::stray` meets its contract.
use Rattle.rows.proofs.Together.{Together}
use Rattle.relations.specs.row_bytes.RowBytes.{rows_of_bytes}
use Rattle.relations.proofs.row_bytes.Table.stray.Given as goal

abbrev pub invariant-loop-i : goal.invariant-loop-i
invariant-loop-i g l = Together 64 (rows_of_bytes g.row.SIZE l.self.n l.self.bytes.now) l.self.n l.all l.i
