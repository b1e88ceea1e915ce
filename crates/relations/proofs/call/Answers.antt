-- `relations::call` meets its contract.
use mathlib.Core.Path.{sym, subst, ◌∙◌}
use native.Mathlib.Omega.{arith}
use lib.ListN.{length}
use Rattle.std.specs.Prelude.{Result}
use Rattle.relations.specs.declared.answer.RelationsPlan.{RelationsPlan}
use Rattle.relations.specs.declared.answer.CallRefused.{CallRefused}
use Rattle.relations.specs.answer.Told.{answer_of}
use Rattle.relations.specs.Call.{RelationsCall}
use Rattle.relations.proofs.checks.Passing.{passed}
use Rattle.relations.proofs.Calls.{handed-on, call-refused}
use Rattle.relations.proofs.call.Goals as goal

pub returns-in_err-first_check-clause-call : goal.returns-in_err-first_check-clause-call
returns-in_err-first_check-clause-call g c =
    let a = c.args in
    let e = c.in_err-first_check.field-0.0 in
    subst (λ (told : Result RelationsPlan CallRefused). RelationsCall g.row.SIZE g.row.MOST a.n a.causes.now a.stalls.now a.out.now a.out.now (answer_of told))
    (sym (handed-on c.from_residual.result e c.from_residual.ensures.1))
    (call-refused g.row.SIZE g.row.MOST a.n a.causes.now a.stalls.now a.out.now e c.in_err-first_check.ensures)

pub of-causes-requires : goal.of-causes-requires
of-causes-requires g c =
    let a = c.args in
    let k = (passed g.row.SIZE g.row.MOST a.n a.causes.now a.stalls.now (length a.out.now) c.in_ok-first_check.ensures).count in
    (omega arith, (c.requires.0, k.some, omega (arith, k.few, c.requires.1), k.causes-long))

pub of-stalls-requires : goal.of-stalls-requires
of-stalls-requires g c =
    let a = c.args in
    let k = (passed g.row.SIZE g.row.MOST a.n a.causes.now a.stalls.now (length a.out.now) c.in_ok-first_check.ensures).count in
    (omega arith, (c.requires.0, k.some, omega (arith, k.few, c.requires.1), k.stalls-long))

pub plan_tables-requires : goal.plan_tables-requires
plan_tables-requires g c =
    let a = c.args in
    let p = passed g.row.SIZE g.row.MOST a.n a.causes.now a.stalls.now (length a.out.now) c.in_ok-first_check.ensures in
    let e = c.of-causes.ensures in
    let f = c.of-stalls.ensures in (
      omega arith,
      (
        omega arith,
        (
          f.1 ∙ sym e.1,
          (
            (omega (arith, e.1, p.count.few), c.requires.1, omega (arith, e.1, p.fits)),
            (rw (e.0, e.1) p.causes-straight, rw (f.0, e.1) p.stalls-straight),
          ),
        ),
      ),
    )
