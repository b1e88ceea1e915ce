-- `declarations::states::state_line` meets its contract.
use native.Mathlib.Omega.{arith}
use mathlib.Core.Path.{refl, ap}
use mathlib.Core.Bool.{not}
use Rattle.std.proofs.Common.{rules}
use Rattle.text.specs.Name.{name_rule}
use Rattle.lines.specs.Line.{state, state_of}
use Rattle.lines.specs.shapes.Shapes.{state_shape_lem}
use Rattle.lines.proofs.Sections.{a-state}
use Rattle.lines.proofs.shapes.Shaped.{state-count}
use Rattle.declarations.proofs.Lines.{words-of, field-of, misshapen, misnamed, taken}
use Rattle.declarations.proofs.ReadSo.{state-in, left-state}
use Rattle.declarations.proofs.states.state_line.Goals as goal

pub returns-in_err-controller : goal.returns-in_err-controller
unfolding state_shape_lem
returns-in_err-controller c =
    let w = field-of state _ _ _ c.state_shape-shape.ensures c.args.nth _ _ (λ x q. search rules) c.in_err-controller.ensures.cases in
    misshapen state _ _ _ _ (a-state _ c.requires.0) _ _ (λ t. left-state t _ _) _ _ c.from_residual.ensures.1 w.0 w.1

pub field-part-requires : goal.field-part-requires
unfolding state_shape_lem
field-part-requires c = let w = words-of state _ _ _ c.state_shape-shape.ensures _ c.in_ok-controller.ensures.cases in omega (arith, state-count c.args.line.now w.0)

pub returns-in_err-name : goal.returns-in_err-name
unfolding state_shape_lem
returns-in_err-name c =
    let w = words-of state _ _ _ c.state_shape-shape.ensures _ c.in_ok-controller.ensures.cases in
    let d = state-in c.field-part.ensures _ c.state_named.ensures c.is_some-declared.ensures (ap (λ k. k.0) w.1) in
    misnamed state _ _ _ _ (a-state _ c.requires.0) _ _ (λ t. left-state t _ _) d (ap (λ x. not (name_rule x)) c.field-part.ensures) w.0 _ _ c.from_residual-in_err-name.ensures.1 c.in_err-name.ensures

pub returns : goal.returns
unfolding state_shape_lem state_of
returns c =
    let w = words-of state _ _ _ c.state_shape-shape.ensures _ c.in_ok-controller.ensures.cases in
    let d = state-in c.field-part.ensures _ c.state_named.ensures c.is_some-declared.ensures (ap (λ k. k.0) w.1) in
    taken state _ _ _ _ (a-state _ c.requires.0) _ _ (λ t. left-state t _ _) d (ap (λ x. not (name_rule x)) c.field-part.ensures) w.0 _ _ c.in_ok-name.ensures (rw (c.in_ok-name.ensures.name, c.field-part.ensures, ap (λ k. k.0) w.1, ap (λ k. k.1) w.1) refl)
