-- `declarations::messages::message_line` meets its contract.
use native.Mathlib.Omega.{arith}
use mathlib.Core.Path.{refl, ap}
use mathlib.Core.Bool.{not}
use Rattle.std.proofs.Common.{rules}
use Rattle.text.specs.Name.{name_rule}
use Rattle.lines.specs.Line.{message, message_of}
use Rattle.lines.specs.shapes.Shapes.{message_shape_lem}
use Rattle.lines.proofs.Sections.{a-message}
use Rattle.lines.proofs.shapes.Shaped.{message-count}
use Rattle.declarations.proofs.Lines.{words-of, field-of, misshapen, misnamed, taken}
use Rattle.declarations.proofs.ReadSo.{message-in, left-message}
use Rattle.declarations.proofs.messages.message_line.Goals as goal

pub returns-in_err-kind : goal.returns-in_err-kind
unfolding message_shape_lem
returns-in_err-kind c =
    let w = field-of message _ _ _ c.message_shape-shape.ensures c.args.nth _ _ (λ x q. search rules) c.in_err-kind.ensures.cases in
    misshapen message _ _ _ _ (a-message _ c.requires.0) _ _ (λ t. left-message t _ _) _ _ c.from_residual.ensures.1 w.0 w.1

pub field-part-requires : goal.field-part-requires
unfolding message_shape_lem
field-part-requires c = let w = words-of message _ _ _ c.message_shape-shape.ensures _ c.in_ok-kind.ensures.cases in omega (arith, message-count c.args.line.now w.0)

pub returns-in_err-name : goal.returns-in_err-name
unfolding message_shape_lem
returns-in_err-name c =
    let w = words-of message _ _ _ c.message_shape-shape.ensures _ c.in_ok-kind.ensures.cases in
    let d = message-in c.field-part.ensures _ c.message_named.ensures c.is_some-declared.ensures in
    misnamed message _ _ _ _ (a-message _ c.requires.0) _ _ (λ t. left-message t _ _) d (ap (λ x. not (name_rule x)) c.field-part.ensures) w.0 _ _ c.from_residual-in_err-name.ensures.1 c.in_err-name.ensures

pub returns : goal.returns
unfolding message_shape_lem message_of
returns c =
    let w = words-of message _ _ _ c.message_shape-shape.ensures _ c.in_ok-kind.ensures.cases in
    let d = message-in c.field-part.ensures _ c.message_named.ensures c.is_some-declared.ensures in
    taken message _ _ _ _ (a-message _ c.requires.0) _ _ (λ t. left-message t _ _) d (ap (λ x. not (name_rule x)) c.field-part.ensures) w.0 _ _ c.in_ok-name.ensures (rw (c.in_ok-name.ensures.name, w.1, c.field-part.ensures) refl)
