-- `cells::targets::target_of` meets its contract.
use Rattle.text.specs.Parts.{split}
use Rattle.std.proofs.lemmas.Result.{err_from_is_err_and}
use Rattle.cells.proofs.Named.{state-known, state-unknown}
use Rattle.cells.proofs.targets.Targeted.{no-next, not-sent, targeted}
use Rattle.cells.proofs.targets.target_of.Goals as goal

pub returns-in_default : goal.returns-in_default
returns-in_default c =
    no-next (split 9 c.args.line.now.bytes.now) c.args.whose c.args.t.now
    (state-unknown _ _ _ _ c.states.ensures.rows c.states.ensures.many (rw c.field.ensures at c.in_default.ensures))

pub returns-in_err-sent : goal.returns-in_err-sent
returns-in_err-sent c =
    let p = err_from_is_err_and c.from_residual.result c.from_residual.ensures.1 in
    rw (p.1, p.2)
    (not-sent (split 9 c.args.line.now.bytes.now) c.args.whose c.args.t.now _
    (state-known _ _ _ _ c.states.ensures.rows c.states.ensures.many _ (rw c.field.ensures at c.in-Some.ensures)) _ c.in_err-sent.ensures)

pub returns : goal.returns
returns c =
    targeted (split 9 c.args.line.now.bytes.now) c.args.whose c.args.t.now _
    (state-known _ _ _ _ c.states.ensures.rows c.states.ensures.many _ (rw c.field.ensures at c.in-Some.ensures)) _ c.in_ok-sent.ensures
