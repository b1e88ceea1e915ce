-- `table_rows::stalls::add_column` meets its contract.
use mathlib.Core.Path.{sym, ◌∙◌}
use mathlib.Core.Bool.{true≢false}
use native.Mathlib.Omega.{arith}
use borrow.Author.Rules.{rules}
use Rattle.table_rows.proofs.stalls.Columns.{columns-start, columns-more, columns-stay, columns-end, column-yes}
use Rattle.table_rows.proofs.stalls.add_column.Goals.{then-has, else-has}
use Rattle.table_rows.proofs.stalls.add_column.Goals as goal

pub loop-a-init : goal.loop-a-init
loop-a-init c = columns-start c.args.who c.args.b.0 c.args.rows.now (search rules)

pub loop-a-preserved : goal.loop-a-preserved
loop-a-preserved c =
    let who = c.args.who in
    let b = c.args.b.0 in
    let old = c.args.rows.now in
    let l = c.loop-a in
    elim c.if-has.branch [
      | then-has w ↦ rw w.rows-is
          (columns-more who b old l.a l.rows w.with_bit.result (omega arith) l.invariant
          (λ j. column-yes who l.a b _ w.with_bit.result j (rw w.index.ensures at w.with_bit.ensures) (c.has.ensures.0 w.if-has.true)))
      | else-has w ↦ rw w.rows-is (columns-stay who b old l.a l.rows (omega arith) (λ h. true≢false (sym (c.has.ensures.1 h) ∙ w.if-has.false)) l.invariant)
    ]

pub returns : goal.returns
returns c = columns-end c.args.who c.args.b.0 c.args.rows.now c.loop-a.a c.loop-a.rows (omega arith) (omega arith) c.loop-a.invariant
