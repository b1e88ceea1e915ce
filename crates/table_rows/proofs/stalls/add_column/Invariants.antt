-- `table_rows::stalls::add_column` meets its contract.
use Rattle.table_rows.proofs.stalls.Columns.{Columns}
use Rattle.table_rows.proofs.stalls.add_column.Given as goal

abbrev pub invariant-loop-a : goal.invariant-loop-a
invariant-loop-a l = Columns l.who l.b.0 l.initial.rows l.a l.rows
