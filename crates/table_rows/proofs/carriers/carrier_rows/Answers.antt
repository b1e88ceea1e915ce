-- `table_rows::carriers::carrier_rows` meets its contract.
use Rattle.tables.specs.Cells.{cells_of}
use Rattle.tables.proofs.InRange.{cells-ok}
use Rattle.table_rows.proofs.carriers.carrier_rows.Goals as goal

pub rows_of-requires : goal.rows_of-requires
rows_of-requires c = rw c.cells.ensures.rows (cells-ok c.args.t.now c.requires)

pub returns : goal.returns
unfolding cells_of
returns c = rw c.cells.ensures.rows at c.rows_of.ensures
