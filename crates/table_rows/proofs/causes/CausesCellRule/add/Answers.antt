-- Rule 1 at one cell meets the contract of a rule.
use Prim.Native.Nat.{◌<◌}
use mathlib.Core.Path.{◌≡◌, subst}
use native.Mathlib.Omega.{arith}
use lib.ListN.{length}
use borrow.Author.Rules.{rules}
use Rattle.tables.specs.Cells.{TriggerOk, as_rule_cell}
use Rattle.tables.proofs.Gather.{↔_trans}
use Rattle.tables.proofs.Adding.{joins-row, adds-row}
use Rattle.table_rows.specs.causes.AtCell.{CellCauses}
use Rattle.table_rows.proofs.causes.AtCell.{message-causes, causes-own}
use Rattle.table_rows.proofs.causes.CausesCellRule.add.Goals as goal

pub returns-in-Message : goal.returns-in-Message
returns-in-Message c =
    let d = c.args.cell.now in
    let m = c.in-Message in
    let R = CellCauses (as_rule_cell d) in
    let small : m.m.0 < 64 = subst (TriggerOk 64 8) m.is c.requires.trigger in
    let e : length c.args.rows.now ≡ 64 = search rules in
    rw c.index-a.ensures
    (adds-row R c.args.rows.now m.m.0 c.join.result (omega (arith, small))
    (joins-row (R m.m.0) _ c.sent_row.result c.join.result (rw c.index-a.ensures at c.join.ensures)
    (λ b. ↔_trans (c.sent_row.ensures b) (message-causes d c.in-Go.field-0 m.m c.in-Go.is m.is b)))
    (causes-own d m.m m.is))
