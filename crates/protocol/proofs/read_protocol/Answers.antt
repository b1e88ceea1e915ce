-- `protocol::read_protocol` meets its contract.
use Prim.Native.Nat.{◌+◌}
use mathlib.Core.Path.{◌≡◌, refl, sym, ap, subst, ◌∙◌}
use native.Mathlib.Omega.{arith}
use lib.ListN.{drop}
use Rattle.std.proofs.lemmas.Result.{err_from_is_err_and}
use Rattle.text.specs.Parts.{lines}
use Rattle.papers.specs.declared.Refusal.{Refusal}
use Rattle.papers.specs.Checks.{none}
use Rattle.papers.specs.refused.Refused.{told_refusal}
use Rattle.papers.proofs.Refusals.{told-some}
use Rattle.protocol.specs.Reading.{read_protocol_lem}
use Rattle.protocol.specs.sections.Lines.{read_lines}
use Rattle.protocol.specs.whole.Whole.{accepted, unless, whole_refusal}
use Rattle.protocol.proofs.Protocol.{Begun, not_opened, begun}
use Rattle.protocol.proofs.sections.Steps.{step_end}
use Rattle.protocol.proofs.whole.Unless.{unless-refused}
use Rattle.protocol.proofs.read_protocol.Goals.{After-find, In_ok-events, In_ok-states, In_ok-cells, In_ok-read_section}
use Rattle.protocol.proofs.read_protocol.Goals as goal

-- the second line starts behind the header
opened : (c : After-find) → Begun c.args.text.now (c.find.result + 1) c.cleared-t.result
opened c =
    subst (Begun c.args.text.now (c.find.result + 1)) (sym c.cleared-t.ensures)
    (begun c.args.text.now none c.in_ok-opening.ensures refl c.find.result c.find.ensures)

-- ---- what was read gives the whole reading

on-events : (c : In_ok-events) → read_protocol_lem c.args.text.now ≡ read_lines c.in_ok-events.events.line (lines (drop c.in_ok-events.events.at c.args.text.now)) c.read_section.new.t
on-events c = (opened (goal.at.In_ok-events c).After-find).on ∙ (c.in_ok-events.ensures).came.on

pub returns-in_err-opening : goal.returns-in_err-opening
returns-in_err-opening c =
    let e = c.in_err-opening.field-0.0 in
    let p = err_from_is_err_and c.from_residual.result c.from_residual.ensures.1 in
    rw (p.1, p.2) (sym (not_opened c.args.text.now (told_refusal e) c.in_err-opening.ensures (told-some e)))

pub overflow_add-second : goal.overflow_add-second
overflow_add-second c = let w = opened (goal.at.overflow_add-second c).After-find in omega (arith, w.placed.lined.within, w.placed.small)

pub read_section-requires : goal.read_section-requires
read_section-requires c = let w = opened (goal.at.read_section-requires c).After-find in (w.kept, w.placed, w.stage)

pub returns-in_err-events : goal.returns-in_err-events
returns-in_err-events c =
    let w = opened (goal.at.returns-in_err-events c).After-find in
    let p = err_from_is_err_and c.from_residual-in_err-events.result c.from_residual-in_err-events.ensures.1 in
    rw (p.1, p.2) (sym (w.on ∙ (c.in_err-events.ensures).bad))

on-states : (c : In_ok-states) → read_protocol_lem c.args.text.now ≡ read_lines c.in_ok-states.states.line (lines (drop c.in_ok-states.states.at c.args.text.now)) c.read_section-2.new.t
on-states c = on-events (goal.at.In_ok-states c).In_ok-events ∙ (c.in_ok-states.ensures).came.on

on-cells : (c : In_ok-cells) → read_protocol_lem c.args.text.now ≡ read_lines c.in_ok-cells.cells.line (lines (drop c.in_ok-cells.cells.at c.args.text.now)) c.read_section-3.new.t
on-cells c = on-states (goal.at.In_ok-cells c).In_ok-states ∙ (c.in_ok-cells.ensures).came.on

-- the text has ended: what is left is to ask for 12 and 13
on-end : (c : In_ok-read_section) → read_protocol_lem c.args.text.now ≡ unless (whole_refusal c.read_section-4.new.t) (accepted c.read_section-4.new.t)
on-end c =
    let w = (c.in_ok-read_section.ensures).came in
    on-cells (goal.at.In_ok-read_section c).In_ok-cells ∙ w.on ∙ step_end c.args.text.now c.in_ok-read_section.field-0.at c.in_ok-read_section.field-0.line c.read_section-4.new.t w.stage.1

pub returns-in_err-states : goal.returns-in_err-states
returns-in_err-states c =
    let p = err_from_is_err_and c.from_residual-in_err-states.result c.from_residual-in_err-states.ensures.1 in
    rw (p.1, p.2) (sym (on-events (goal.at.returns-in_err-states c).In_ok-events ∙ (c.in_err-states.ensures).bad))

pub returns-in_err-cells : goal.returns-in_err-cells
returns-in_err-cells c =
    let p = err_from_is_err_and c.from_residual-in_err-cells.result c.from_residual-in_err-cells.ensures.1 in
    rw (p.1, p.2) (sym (on-states (goal.at.returns-in_err-cells c).In_ok-states ∙ (c.in_err-cells.ensures).bad))

pub returns-in_err-read_section : goal.returns-in_err-read_section
returns-in_err-read_section c =
    let p = err_from_is_err_and c.from_residual-in_err-read_section.result c.from_residual-in_err-read_section.ensures.1 in
    rw (p.1, p.2) (sym (on-cells (goal.at.returns-in_err-read_section c).In_ok-cells ∙ (c.in_err-read_section.ensures).bad))

pub returns-in_err-finished : goal.returns-in_err-finished
returns-in_err-finished c =
    let e = c.in_err-finished.field-0.0 in
    let t = c.read_section-4.new.t in
    let p = err_from_is_err_and c.from_residual-in_err-finished.result c.from_residual-in_err-finished.ensures.1 in
    rw (p.1, p.2) (sym (on-end (goal.at.returns-in_err-finished c).In_ok-read_section
    ∙ ap (λ (r : Refusal). unless r (accepted t)) (sym c.in_err-finished.ensures) ∙ unless-refused (told_refusal e) (accepted t) (told-some e)))

pub returns : goal.returns
returns c =
    let t = c.read_section-4.new.t in
    sym (on-end (goal.at.returns c).In_ok-read_section ∙ ap (λ (r : Refusal). unless r (accepted t)) (sym c.in_ok-finished.ensures))
