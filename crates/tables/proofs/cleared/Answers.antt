-- `tables::cleared` meets its contract.
use Rattle.tables.specs.Tables.{cleared_tables}
use Rattle.tables.proofs.cleared.Goals as goal

pub returns : goal.returns
unfolding cleared_tables
returns c = rw (c.no_cell-cell.ensures, c.no_name-name.ensures)
