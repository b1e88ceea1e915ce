-- `table_rows::by_cells::rows_of` meets its contract.
use native.Mathlib.Omega.{arith}
use Rattle.tables.specs.Cells.{CellOk}
use Rattle.tables.proofs.Gather.{each_at}
use Rattle.tables.proofs.AllCells.{upto-none, upto-more, upto-all}
use Rattle.table_rows.proofs.by_cells.rows_of.Goals as goal

pub loop-cell-init : goal.loop-cell-init
loop-cell-init g c = upto-none (g.R.CellRule.gives c.args.rule.now) c.args.cells.now 64

pub add-requires : goal.add-requires
add-requires g c = each_at (CellOk 64 8 64) c.args.cells.now _ _ c.requires (omega arith)

pub loop-cell-preserved : goal.loop-cell-preserved
loop-cell-preserved g c = upto-more (g.R.CellRule.gives c.args.rule.now) c.args.cells.now c.loop-cell.cell-index _ c.loop-cell.rows c.add.new.rows (omega arith) c.add.ensures c.loop-cell.invariant

pub returns : goal.returns
returns g c = upto-all (g.R.CellRule.gives c.args.rule.now) c.args.cells.now c.loop-cell.cell-index c.loop-cell.rows (omega arith) c.loop-cell.invariant
