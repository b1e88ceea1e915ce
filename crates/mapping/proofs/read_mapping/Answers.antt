-- `mapping::read_mapping` meets its contract.
use Prim.Native.Nat.{ℕ, ◌+◌, ◌-◌}
use mathlib.Core.Path.{◌≡◌, refl, sym, ap, ◌∙◌, subst}
use mathlib.Core.List.{List, []}
use lib.ListN.{length, take, drop}
use native.Mathlib.Omega.{arith}
use Rattle.std.specs.Prelude.{Err}
use Rattle.std.proofs.lemmas.Result.{err_from_is_err_and}
use Rattle.text.specs.Parts.{lines}
use Rattle.papers.specs.declared.Refusal.{Refusal}
use Rattle.papers.specs.refused.Refused.{told_refusal}
use Rattle.papers.specs.Lined.{Lined}
use Rattle.papers.specs.Opening.{opening_of}
use Rattle.papers.proofs.Refusals.{told-some}
use Rattle.papers.proofs.OpeningLaws.{opened}
use Rattle.mapping.specs.Headers.{header_of}
use Rattle.mapping.specs.Reading.{mapped_of, maps_refused, read_maps}
use Rattle.mapping.proofs.ReadLaws.{reading-refused, reading-lines, rest_lem, lined_rest}
use Rattle.mapping.proofs.read_mapping.Goals.{In_ok-opening}
use Rattle.mapping.proofs.read_mapping.Goals as goal

-- the text opens with its header
opens : (c : In_ok-opening) → (opening_of (header_of c.args.text.now).line c.args.text.now).number ≡ 0
opens c =
    let text = c.args.text.now in
    ap (λ (l : List ℕ). (opening_of l text).number) (sym c.header_of-header.ensures.line) ∙ ap (λ (r : Refusal). r.number) (sym c.in_ok-opening.ensures)

pub returns-in_err-opening : goal.returns-in_err-opening
returns-in_err-opening c =
    let text = c.args.text.now in
    let why = c.in_err-opening.field-0.0 in
    let told : told_refusal why ≡ opening_of (header_of text).line text = c.in_err-opening.ensures ∙ ap (λ (l : List ℕ). opening_of l text) c.header_of-header.ensures.line in
    let p = err_from_is_err_and c.from_residual.result c.from_residual.ensures.1 in
    ap mapped_of (p.1 ∙ ap Err p.2) ∙ ap maps_refused told
    ∙ sym (reading-refused c.args.messages.now text (header_of text) refl (λ z. told-some why (ap (λ (r : Refusal). r.number) told ∙ z)))

pub overflow_add-e : goal.overflow_add-e
overflow_add-e c =
    let o = opened _ _ (opens (goal.at.overflow_add-e c).In_ok-opening) in
    omega (arith, o.ends, c.find-e.ensures)

pub slice_bounds-map_lines-count : goal.slice_bounds-map_lines-count
slice_bounds-map_lines-count c =
    let o = opened _ _ (opens (goal.at.slice_bounds-map_lines-count c).In_ok-opening) in
    omega (arith, o.ends, c.find-e.ensures)

pub slice_bounds-map_lines-start : goal.slice_bounds-map_lines-start
slice_bounds-map_lines-start c =
    let o = opened _ _ (opens (goal.at.slice_bounds-map_lines-start c).In_ok-opening) in
    omega (arith, o.ends, c.find-e.ensures)

pub map_lines-requires : goal.map_lines-requires
map_lines-requires c =
    let text = c.args.text.now in
    let o = opened _ _ (opens (goal.at.map_lines-requires c).In_ok-opening) in
    (lined_rest text _ (subst (λ (e : ℕ). Lined text (e + 1)) (sym c.find-e.ensures) o.more), c.requires)

pub returns : goal.returns
returns c =
    let text = c.args.text.now in
    let ms = c.args.messages.now in
    reading-lines ms text (header_of text) refl _ (opens (goal.at.returns c).In_ok-opening)
    (c.map_lines.ensures ∙ ap (λ (most : ℕ). read_maps most 2 (lines (take (length text - (c.find-e.result + 1)) (drop (c.find-e.result + 1) text))) ms []) c.header_of-header.ensures.most
    ∙ ap (λ (l : List ℕ). read_maps (header_of text).most 2 (lines l) ms []) (rest_lem text (c.find-e.result + 1))
    ∙ ap (λ (e : ℕ). read_maps (header_of text).most 2 (lines (drop (e + 1) text)) ms []) c.find-e.ensures)
