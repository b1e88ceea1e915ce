-- `mapping::map_lines` meets its contract.
use Prim.Native.Nat.{ℕ, ◌+◌, ◌<◌, ◌≤◌}
use mathlib.Core.Path.{◌≡◌, sym, ap, ◌∙◌, subst}
use mathlib.Core.Bool.{true}
use lib.ListN.{length, set}
use native.Mathlib.Omega.{arith}
use Rattle.text.specs.Parts.{part, place, split}
use Rattle.mapping.specs.lines.Line.{map_shaped, map_shape}
use Rattle.mapping.specs.Reading.{mapped_of}
use Rattle.std.specs.Prelude.{Err}
use Rattle.std.proofs.lemmas.Result.{err_from_is_err_and, MatchResult-weaker}
use Rattle.papers.proofs.Mapped.{err-mapped, ok-mapped}
use Rattle.papers.specs.declared.refused.Field.{Field}
use Rattle.papers.specs.declared.refused.Refused.{Refused}
use Rattle.papers.specs.refused.Refused.{told_refusal}
use Rattle.papers.specs.Checks.{field_refusal}
use borrow.Author.Rules.{rules}
use Rattle.mapping.proofs.lines.LineLaws.{is-shaped}
use Rattle.mapping.proofs.ReadLaws.{Going, line-within, going-shape, going-full, going-many, going-refused, going_more, going-short, going_done}
use Rattle.mapping.proofs.map_lines.Goals.{After-find-e, After-of-line, In_ok-map_err}
use Rattle.mapping.proofs.map_lines.Goals as goal

-- the line that was found ends within the text
found : (c : After-find-e) → (c.loop-at.at ≤ c.find-e.result) × (c.find-e.result < length c.args.text.now)
found c =
    let w = line-within _ _ _ _ _ _ c.loop-at.invariant c.loop-at-test.true in
    (omega (arith, w.0, c.find-e.ensures), omega (arith, w.1, c.find-e.ensures))

-- what it is
line : (c : After-of-line) → c.of-line.result.bytes.now ≡ part c.args.text.now c.loop-at.at (place 10 c.args.text.now c.loop-at.at (length c.args.text.now))
line c = c.of-line.ensures ∙ ap (part c.args.text.now c.loop-at.at) c.find-e.ensures

-- what is made of a field that is wrong
abbrev Tells : ℕ → Field → Refused → Type 0
Tells nth x r = told_refusal r ≡ field_refusal 4 nth x.0

-- it is shaped, where no field is wrong
shaped : (c : In_ok-map_err) → map_shaped (split 9 c.of-line.result.bytes.now) ≡ true
shaped c = is-shaped _ _ (sym c.is_map.ensures ∙ ok-mapped (Tells (c.loop-at.i + 2)) c.is_map.result _ c.in_ok-map_err.ensures.cases)

pub slice_bounds-of-count : goal.slice_bounds-of-count
slice_bounds-of-count c = (found (goal.at.slice_bounds-of-count c).After-find-e).0

pub slice_bounds-of-start : goal.slice_bounds-of-start
slice_bounds-of-start c = (found (goal.at.slice_bounds-of-start c).After-find-e).0

pub slice_bounds-of-end : goal.slice_bounds-of-end
slice_bounds-of-end c = let f = found (goal.at.slice_bounds-of-end c).After-find-e in omega (arith, f.1)

pub returns-in_err-map_err : goal.returns-in_err-map_err
returns-in_err-map_err c =
    let h =
    err-mapped (Tells (c.loop-at.i + 2)) c.is_map.result _
    (MatchResult-weaker c.is_map.result c.in_err-map_err.ensures.cases (λ x p. p) (λ x p. search rules)) in
    let q : map_shape (split 9 c.of-line.result.bytes.now) ≡ Err h.0 = sym c.is_map.ensures ∙ h.1 in
    let p = err_from_is_err_and c.from_residual.result c.from_residual.ensures.1 in
    ap mapped_of (p.1 ∙ ap Err p.2)
    ∙ going-shape _ _ _ _ _ _ c.loop-at.invariant c.loop-at-test.true _ (line (goal.at.returns-in_err-map_err c).After-of-line) h.0 q _ h.2

pub returns-then-i-header : goal.returns-then-i-header
returns-then-i-header c =
    going-full _ _ _ _ _ _ c.loop-at.invariant c.loop-at-test.true _ (line (goal.at.returns-then-i-header c).After-of-line)
    (shaped (goal.at.returns-then-i-header c).In_ok-map_err) c.if-i-header.true _ c.whole.ensures

pub returns-in_default : goal.returns-in_default
returns-in_default c =
    going-many _ _ _ _ _ _ c.loop-at.invariant c.loop-at-test.true _ (line (goal.at.returns-in_default c).After-of-line)
    (shaped (goal.at.returns-in_default c).In_ok-map_err) (omega (arith, c.loop-at.invariant.room)) (omega (arith, c.in_default.ensures.lookup)) _ c.whole-in_default.ensures

pub map_line-requires : goal.map_line-requires
map_line-requires c = shaped (goal.at.map_line-requires c).In_ok-map_err

pub returns-in_err-networks : goal.returns-in_err-networks
returns-in_err-networks c =
    let p = err_from_is_err_and c.from_residual-in_err-networks.result c.from_residual-in_err-networks.ensures.1 in
    ap mapped_of (p.1 ∙ ap Err p.2)
    ∙ going-refused _ _ _ _ _ _ c.loop-at.invariant c.loop-at-test.true _ (line (goal.at.returns-in_err-networks c).After-of-line)
    (shaped (goal.at.returns-in_err-networks c).In_ok-map_err) (omega (arith, c.in-Some.ensures.lookup)) c.in-Some.message.now c.in-Some.ensures.lookup.1
    c.in_err-networks.field-0.0 (c.in_err-networks.ensures.told c.loop-at.i (omega (arith, c.loop-at.invariant.room)))

pub loop-at-smaller : goal.loop-at-smaller
loop-at-smaller c = let f = found (goal.at.loop-at-smaller c).After-find-e in omega (arith, f.0, f.1)

pub loop-at-preserved : goal.loop-at-preserved
loop-at-preserved c =
    subst (λ (e : ℕ). Going c.args.header.most c.args.text.now c.args.messages.now (e + 1) (c.loop-at.i + 1) (set c.loop-at.networks c.loop-at.i c.in_ok-networks.field-0)) (sym c.find-e.ensures)
    (going_more _ _ _ _ _ _ c.loop-at.invariant c.loop-at-test.true _ (line (goal.at.loop-at-preserved c).After-of-line)
    (shaped (goal.at.loop-at-preserved c).In_ok-map_err) (omega (arith, c.in-Some.ensures.lookup)) c.in-Some.message.now c.in-Some.ensures.lookup.1
    (omega (arith, c.loop-at.invariant.room)) c.args.header.limits.1 (c.in_ok-networks.ensures.told c.loop-at.i (omega (arith, c.loop-at.invariant.room))) c.in_ok-networks.field-0 c.in_ok-networks.ensures.network)

pub returns-then-i-messages : goal.returns-then-i-messages
returns-then-i-messages c = going-short _ _ _ _ _ _ c.loop-at.invariant _ c.whole-then-i-messages.ensures c.loop-at-test.false c.if-i-messages.true

pub returns : goal.returns
returns c = going_done _ _ _ _ _ _ c.loop-at.invariant c.loop-at-test.false c.if-i-messages.false
