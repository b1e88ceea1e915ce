-- `lines::misplaced::misplaced` meets its contract.
use mathlib.Core.Path.{sym, ◌∙◌}
use Rattle.papers.specs.Fields.{first_bad_field}
use Rattle.lines.specs.Line.{message, event, state, unknown}
use Rattle.lines.specs.shapes.Shapes.{message_shape_lem, event_shape_lem, state_shape_lem}
use Rattle.lines.proofs.Sections.{a-message, an-event, a-state, no_section}
use Rattle.lines.proofs.misplaced.Misplacing.{misplaced-when, late-by_shape}
use Rattle.lines.proofs.misplaced.misplaced.Goals as goal

pub returns-then-is : goal.returns-then-is
unfolding message_shape_lem
returns-then-is c = misplaced-when _ _ _ message (a-message _ (sym c.is.ensures ∙ c.if-is.true)) (c.late.ensures ∙ rw c.message_shape.ensures (late-by_shape message _ _ _))

pub returns-then-is-2 : goal.returns-then-is-2
unfolding event_shape_lem
returns-then-is-2 c = misplaced-when _ _ _ event (an-event _ (sym c.is-2.ensures ∙ c.if-is-2.true)) (c.late-then-is-2.ensures ∙ rw c.event_shape.ensures (late-by_shape event _ _ _))

pub returns-then-is-3 : goal.returns-then-is-3
unfolding state_shape_lem
returns-then-is-3 c = misplaced-when _ _ _ state (a-state _ (sym c.is-3.ensures ∙ c.if-is-3.true)) (c.late-then-is-3.ensures ∙ rw c.state_shape.ensures (late-by_shape state _ _ _))

pub returns : goal.returns
unfolding first_bad_field
returns c = misplaced-when _ _ _ unknown (no_section _ (sym c.is.ensures ∙ c.if-is.false) (sym c.is-2.ensures ∙ c.if-is-2.false) (sym c.is-3.ensures ∙ c.if-is-3.false) c.requires) c.at.ensures
