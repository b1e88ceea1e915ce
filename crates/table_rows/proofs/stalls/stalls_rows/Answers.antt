-- `table_rows::stalls::stalls_rows` meets its contract.
use borrow.Author.Rules.{rules}
use Rattle.tables.specs.Cells.{cells_of, transient_of}
use Rattle.tables.proofs.Gather.{↔_trans, each_part}
use Rattle.tables.proofs.InRange.{cells-ok}
use Rattle.table_rows.specs.stalls.AtCell.{Among}
use Rattle.table_rows.proofs.stalls.AtCell.{stalls-cells}
use Rattle.table_rows.proofs.stalls.stalls_rows.Goals as goal

-- also where only a part of the cells is passed: then what is false is the answer, and nothing before it
pub rows_of-requires : goal.rows_of-requires
rows_of-requires c = let ok = cells-ok c.args.t.now c.requires in rw c.cells.ensures.rows (search (rules, each_part))

pub returns : goal.returns
unfolding cells_of
returns c =
    let t = c.args.t.now in
    let f = rw c.cells.ensures.rows at c.rows_of.ensures in
    let s = c.staller_rows-stallers in
    λ a b. ↔_trans (f a b) (stalls-cells (Among s.result) (transient_of t) (cells_of t) (λ x k. s.ensures k x) a b)
