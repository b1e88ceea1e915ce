-- `relations::row_bytes::Table::load` meets its contract.
use native.Mathlib.Omega.{arith}
use Rattle.rows.proofs.FillingRows.{fill_start}
use Rattle.relations.proofs.row_bytes.RowLaws.{IsRow, load_step, load-end}
use Rattle.relations.proofs.row_bytes.Table.load.Goals as goal

pub loop-i-init : goal.loop-i-init
loop-i-init g c = let s = c.args.self.now in fill_start (IsRow g.row.SIZE s.n s.bytes.now) s.n c.args.rows.now

pub loop-i-preserved : goal.loop-i-preserved
loop-i-preserved g c =
    let l = c.loop-i in
    let s = c.args.self.now in
    load_step g.row.SIZE s.n s.bytes.now c.args.rows.now l.rows l.i c.row.result (omega arith) (omega arith) c.row.ensures l.invariant

pub returns : goal.returns
returns g c =
    let l = c.loop-i in
    let s = c.args.self.now in
    load-end g.row.SIZE s.n s.bytes.now c.args.rows.now l.rows l.i (omega arith) l.invariant
