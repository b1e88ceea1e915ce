-- `cells::readings::go_of` meets its contract.
use native.Mathlib.Omega.{arith}
use Rattle.text.specs.Parts.{split}
use Rattle.std.proofs.lemmas.Result.{err_from_is_err_and}
use Rattle.papers.proofs.Recorded.{count-short}
use Rattle.cells.proofs.readings.Whole.{not-placed}
use Rattle.cells.proofs.readings.Going.{not-targeted, going}
use Rattle.cells.proofs.readings.go_of.Goals as goal

pub place_of-requires : goal.place_of-requires
place_of-requires c =
    (omega (arith, c.requires.0.some, c.requires.0.few, count-short c.args.line.now c.requires.0.few), c.requires.1, c.requires.2, c.requires.3)

pub returns-in_err-at : goal.returns-in_err-at
returns-in_err-at c =
    let p = err_from_is_err_and c.from_residual.result c.from_residual.ensures.1 in
    rw (p.1, p.2) (not-placed (split 9 c.args.line.now.bytes.now) c.args.t.now _ (rw c.requires.0.is at c.in_err-at.ensures))

pub target_of-requires : goal.target_of-requires
target_of-requires c =
    let e = count-short c.args.line.now c.requires.0.few in
    (omega (arith, c.requires.0.some), omega (arith, c.requires.0.few), c.requires.1, c.requires.3)

pub returns-in_err-to : goal.returns-in_err-to
returns-in_err-to c =
    let p = err_from_is_err_and c.from_residual-in_err-to.result c.from_residual-in_err-to.ensures.1 in
    rw (p.1, p.2)
    (not-targeted (split 9 c.args.line.now.bytes.now) c.args.whose c.args.t.now c.requires.0 _ c.in_ok-at.ensures _ c.in_err-to.ensures)

pub returns : goal.returns
returns c = going (split 9 c.args.line.now.bytes.now) c.args.whose c.args.t.now c.requires.0 _ c.in_ok-at.ensures _ c.in_ok-to.ensures
