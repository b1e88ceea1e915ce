-- `table_rows::stallers::leading_rows` meets its contract.
use Rattle.tables.specs.Cells.{cells_of, transient_of}
use Rattle.tables.proofs.Gather.{↔_trans}
use Rattle.tables.proofs.InRange.{cells-ok}
use Rattle.table_rows.proofs.stallers.AtCell.{leads-cells}
use Rattle.table_rows.proofs.stallers.leading_rows.Goals as goal

pub rows_of-requires : goal.rows_of-requires
rows_of-requires c = rw c.cells.ensures.rows (cells-ok c.args.t.now c.requires)

pub returns : goal.returns
unfolding cells_of transient_of
returns c =
    let t = c.args.t.now in
    let f = rw (c.cells.ensures.rows, c.states.ensures.rows) at c.rows_of.ensures in
    λ r s. ↔_trans (f r s) (leads-cells (transient_of t) (cells_of t) r s)
