-- `declarations::events::event_line` meets its contract.
use native.Mathlib.Omega.{arith}
use mathlib.Core.Path.{refl, sym, ap, ◌∙◌}
use mathlib.Core.Bool.{not}
use Rattle.std.proofs.Common.{rules}
use Rattle.text.specs.Name.{name_rule}
use Rattle.lines.specs.Line.{event, event_of}
use Rattle.lines.specs.shapes.Shapes.{event_shape_lem}
use Rattle.lines.proofs.Sections.{an-event}
use Rattle.lines.proofs.shapes.Shaped.{event-count}
use Rattle.declarations.proofs.Lines.{words-of, field-of, misshapen, misnamed, taken}
use Rattle.declarations.proofs.ReadSo.{message-in, event-in, left-event}
use Rattle.declarations.proofs.events.event_line.Goals as goal
use Rattle.declarations.proofs.events.event_line.Goals.{then-is_some, else-is_some}

pub returns-in_err-map_err : goal.returns-in_err-map_err
unfolding event_shape_lem
returns-in_err-map_err c =
    let w = field-of event _ _ _ c.event_shape-shape.ensures c.args.nth _ _ (λ x q. search rules) c.in_err-map_err.ensures.cases in
    misshapen event _ _ _ _ (an-event _ c.requires.0) _ _ (λ t. left-event t _ _ _) _ _ c.from_residual.ensures.1 w.0 w.1

pub field-part-requires : goal.field-part-requires
unfolding event_shape_lem
field-part-requires c = let w = words-of event _ _ _ c.event_shape-shape.ensures _ c.in_ok-map_err.ensures.cases in omega (arith, event-count c.args.line.now w.0)

pub returns-in_err-name : goal.returns-in_err-name
unfolding event_shape_lem
returns-in_err-name c =
    let w = words-of event _ _ _ c.event_shape-shape.ensures _ c.in_ok-map_err.ensures.cases in
    let m = message-in c.field-part.ensures _ c.message_named.ensures c.is_some.ensures in
    misnamed event _ _ _ _ (an-event _ c.requires.0) _ _ (λ t. left-event t _ c.args.messages.now c.args.events.now) {g = c.if-is_some.declared} (elim c.if-is_some.branch [
      | then-is_some b ↦ rw (sym m, b.if-is_some.true) (b.declared-is ∙ b.if-is_some.true)
      | else-is_some b ↦ rw (sym m, b.if-is_some.false) (b.declared-is ∙ event-in c.field-part.ensures _ b.event_named.ensures b.is_some-declared.ensures)
    ]) (ap (λ x. not (name_rule x)) c.field-part.ensures) w.0 _ _
    c.from_residual-in_err-name.ensures.1 c.in_err-name.ensures

pub returns : goal.returns
unfolding event_shape_lem event_of
returns c =
    let w = words-of event _ _ _ c.event_shape-shape.ensures _ c.in_ok-map_err.ensures.cases in
    let m = message-in c.field-part.ensures _ c.message_named.ensures c.is_some.ensures in
    taken event _ _ _ _ (an-event _ c.requires.0) _ _ (λ t. left-event t _ c.args.messages.now c.args.events.now) {g = c.if-is_some.declared} (elim c.if-is_some.branch [
      | then-is_some b ↦ rw (sym m, b.if-is_some.true) (b.declared-is ∙ b.if-is_some.true)
      | else-is_some b ↦ rw (sym m, b.if-is_some.false) (b.declared-is ∙ event-in c.field-part.ensures _ b.event_named.ensures b.is_some-declared.ensures)
    ]) (ap (λ x. not (name_rule x)) c.field-part.ensures) w.0 _ _ c.in_ok-name.ensures
    (rw (c.in_ok-name.ensures.name, c.field-part.ensures) refl)
