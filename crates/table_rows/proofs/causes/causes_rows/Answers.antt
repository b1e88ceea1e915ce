-- `table_rows::causes::causes_rows` meets its contract.
use borrow.Author.Rules.{rules}
use Rattle.tables.specs.Cells.{cells_of}
use Rattle.tables.proofs.Gather.{each_part}
use Rattle.tables.proofs.InRange.{cells-ok}
use Rattle.table_rows.proofs.causes.causes_rows.Goals as goal

-- also where only a part of the cells is passed: then what is false is the answer, and nothing before it
pub rows_of-requires : goal.rows_of-requires
rows_of-requires c = let ok = cells-ok c.args.t.now c.requires in rw c.cells.ensures.rows (search (rules, each_part))

pub returns : goal.returns
unfolding cells_of
returns c = rw c.cells.ensures.rows at c.rows_of.ensures
