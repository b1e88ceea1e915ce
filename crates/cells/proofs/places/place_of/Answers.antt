-- `cells::places::place_of` meets its contract.
use Rattle.text.specs.Parts.{split}
use Rattle.cells.proofs.Named.{state-known, state-unknown}
use Rattle.cells.proofs.places.Placed.{no-state, no-trigger, placed}
use Rattle.cells.proofs.places.place_of.Goals as goal

pub returns-in_default : goal.returns-in_default
returns-in_default c =
    no-state (split 9 c.args.line.now.bytes.now) c.args.whose c.args.t.now
    (state-unknown _ _ _ _ c.states.ensures.rows c.states.ensures.many (rw c.field.ensures at c.in_default.ensures))

pub returns-in_default-trigger_at : goal.returns-in_default-trigger_at
returns-in_default-trigger_at c =
    no-trigger (split 9 c.args.line.now.bytes.now) c.args.whose c.args.t.now _
    (state-known _ _ _ _ c.states.ensures.rows c.states.ensures.many _ (rw c.field.ensures at c.in-Some.ensures))
    (rw c.field-2.ensures at c.in_default-trigger_at.ensures)

pub returns : goal.returns
returns c =
    placed (split 9 c.args.line.now.bytes.now) c.args.whose c.args.t.now _
    (state-known _ _ _ _ c.states.ensures.rows c.states.ensures.many _ (rw c.field.ensures at c.in-Some.ensures)) _
    (rw c.field-2.ensures at c.in-Some-trigger_at.ensures)
