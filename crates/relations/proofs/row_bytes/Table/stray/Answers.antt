-- `relations::row_bytes::Table::stray` meets its contract.
use Prim.Native.Nat.{◌<◌, ◌^◌}
use native.Mathlib.Omega.{arith}
use Rattle.rows.specs.Rows.{Stray}
use Rattle.rows.proofs.Together.{together-start, together-step}
use Rattle.rows.proofs.Told.{told-differ}
use Rattle.relations.specs.row_bytes.RowBytes.{rows_of_bytes}
use Rattle.relations.proofs.row_bytes.RowLaws.{stray-none, stray-some, rows_at}
use Rattle.relations.proofs.row_bytes.Table.stray.Goals as goal

pub loop-i-init : goal.loop-i-init
loop-i-init g c = let s = c.args.self.now in together-start 64 (rows_of_bytes g.row.SIZE s.n s.bytes.now) s.n

pub loop-i-preserved : goal.loop-i-preserved
loop-i-preserved g c =
    let l = c.loop-i in
    let s = c.args.self.now in
    let small : c.join-all.result < 2 ^ 64 = omega (arith, c.join-all.type_inv) in
    together-step 64 (rows_of_bytes g.row.SIZE s.n s.bytes.now) s.n l.all l.i c.join-all.result (omega arith)
    (rw (rows_at g.row.SIZE s.n s.bytes.now l.i (omega arith), ← c.row.ensures) c.join-all.ensures) small l.invariant

pub returns : goal.returns
returns g c =
    let l = c.loop-i in
    let s = c.args.self.now in
    let b = c.all_below in
    let m = c.meet in
    let rows = rows_of_bytes g.row.SIZE s.n s.bytes.now in
    let small : m.result < 2 ^ 64 = omega (arith, m.type_inv) in
    told-differ (Stray s.n rows) m.result l.all
    (stray-some 64 rows s.n l.all l.i b.result m.result (omega arith) l.invariant b.ensures m.ensures small)
    (stray-none 64 rows s.n l.all l.i b.result m.result (omega arith) l.invariant b.ensures m.ensures)
