-- `cells::judged` meets its contract.
use mathlib.Core.Path.{sym, ap, ◌∙◌}
use native.Mathlib.Omega.{arith}
use Rattle.tables.specs.Clash.{any_clash_lem}
use Rattle.cells.proofs.Judging.{too_many, stuck_there, clashing, accepted}
use Rattle.cells.proofs.judged.Goals as goal

pub returns-then-t-ge-CELLS : goal.returns-then-t-ge-CELLS
returns-then-t-ge-CELLS c = too_many _ _ _ _ (omega arith) c.whole.ensures

pub returns-then-at : goal.returns-then-at
returns-then-at c = stuck_there _ _ _ _ (omega arith) c.if-at.true c.whole-then-at.ensures

pub returns-then-any_clash : goal.returns-then-any_clash
returns-then-any_clash c =
    clashing _ _ _ _ (omega arith) c.if-at.false
    (ap (any_clash_lem c.args.at.cell) (sym c.cells.ensures.rows) ∙ sym c.any_clash.ensures ∙ c.if-any_clash.true) c.whole-then-any_clash.ensures

pub returns : goal.returns
returns c =
    accepted _ _ _ (omega arith) c.if-at.false
    (ap (any_clash_lem c.args.at.cell) (sym c.cells.ensures.rows) ∙ sym c.any_clash.ensures ∙ c.if-any_clash.false)
