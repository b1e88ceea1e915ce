-- `relations::plans::plan_tables` meets its contract.
use native.Mathlib.Omega.{arith}
use Rattle.waits.proofs.Waiting.{waits-tidy}
use Rattle.relations.specs.row_bytes.RowBytes.{rows_of_bytes}
use Rattle.relations.proofs.row_bytes.RowLaws.{rows-length}
use Rattle.relations.proofs.plans.Plans.{planned, same-waits, same-joins}
use Rattle.relations.proofs.plans.plan_tables.Goals as goal

pub plan_rows-requires : goal.plan_rows-requires
plan_rows-requires g c =
    let t = c.args.causes.now in
    let r = c.requires.n_in_bounds in
    let w = c.waits-joins in
    (t.whole.0, t.whole.1, omega (arith, r.0, w.ensures.waits_rows.kept.long), omega (arith, r.0, c.load-2.ensures.kept.long), r.2, waits-tidy t.n c.load.new.rows c.load-2.new.rows _ w.new.waits w.ensures.waits_rows)

pub returns-clause-plan : goal.returns-clause-plan
returns-clause-plan g c =
    let t = c.args.causes.now in
    let f = c.load in
    let h = c.load-2 in
    let w = c.waits-joins in
    let p = c.plan_rows in
    let causes = rows_of_bytes g.row.SIZE t.n t.bytes.now in
    let stalls = rows_of_bytes g.row.SIZE t.n c.args.stalls.now.bytes.now in
    planned t.n causes stalls w.new.waits t.whole.0
    (same-waits t.n f.new.rows causes h.new.rows stalls _ w.new.waits f.ensures.rows (rw c.requires.one_count at h.ensures.rows) w.ensures.waits_rows)
    w.result c.args.out.now p.new.out _
    (same-joins t.n w.result f.new.rows causes f.ensures.rows (omega (arith, c.requires.n_in_bounds.0, f.ensures.kept.long)) (rows-length g.row.SIZE t.n t.bytes.now) w.ensures.value)
    p.ensures.plan
