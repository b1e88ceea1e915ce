-- `table_rows::by_cells::rows_of` meets its contract.
use Rattle.tables.proofs.AllCells.{Upto}
use Rattle.table_rows.proofs.by_cells.rows_of.Given as goal

abbrev pub invariant-loop-cell : goal.invariant-loop-cell
invariant-loop-cell g l = Upto (g.R.CellRule.gives l.rule) l.cells l.cell-index l.rows
