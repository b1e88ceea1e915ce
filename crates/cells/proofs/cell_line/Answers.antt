-- `cells::cell_line` meets its contract.
use Prim.Native.Nat.{ℕ}
use mathlib.Core.Path.{◌≡◌}
use borrow.Author.Rules.{rules}
use Rattle.std.proofs.lemmas.Result.{err_from_is_err_and, MatchResult-weaker}
use Rattle.papers.specs.declared.refused.Field.{Field}
use Rattle.papers.specs.declared.refused.Refused.{Refused}
use Rattle.papers.specs.refused.Refused.{told_refusal}
use Rattle.papers.specs.Checks.{field_refusal}
use Rattle.papers.proofs.Mapped.{err-mapped, ok-mapped}
use Rattle.cells.proofs.shapes.Shapes.{wrong-shape, right-shape}
use Rattle.cells.proofs.Judging.{other_shape, unknown_name, told-judged}
use Rattle.cells.proofs.cell_line.Goals as goal

-- What a closure tells of a field.
abbrev Tells : ℕ → ℕ → Field → Refused → Type 0
Tells number nth x r = told_refusal r ≡ field_refusal number nth x.0

pub returns-in_err-shape : goal.returns-in_err-shape
returns-in_err-shape c =
    let h =
    err-mapped (Tells 4 c.args.nth) c.shape_of.result _
    (MatchResult-weaker c.shape_of.result c.in_err-shape.ensures.cases (λ x p. p) (λ x p. search rules)) in
    let p = err_from_is_err_and c.from_residual.result c.from_residual.ensures.1 in
    rw (p.1, p.2) (other_shape _ _ _ c.requires.0 h.0 (wrong-shape _ h.0 (rw h.1 at c.shape_of.ensures)) _ h.2)

pub returns-in_err-at : goal.returns-in_err-at
returns-in_err-at c =
    let s = ok-mapped (Tells 4 c.args.nth) c.shape_of.result _ c.in_ok-shape.ensures.cases in
    let h =
    err-mapped (Tells 7 c.args.nth) c.reading_of.result _
    (MatchResult-weaker c.reading_of.result c.in_err-at.ensures.cases (λ x p. p) (λ x p. search rules)) in
    let p = err_from_is_err_and c.from_residual-in_err-at.result c.from_residual-in_err-at.ensures.1 in
    rw (p.1, p.2)
    (unknown_name _ _ _ c.requires.0 (right-shape _ _ (rw s at c.shape_of.ensures)).0 h.0 (rw h.1 at c.reading_of.ensures) _ h.2)

pub returns : goal.returns
returns c =
    let s = ok-mapped (Tells 4 c.args.nth) c.shape_of.result _ c.in_ok-shape.ensures.cases in
    let h = ok-mapped (Tells 7 c.args.nth) c.reading_of.result _ c.in_ok-at.ensures.cases in
    told-judged _ _ _ c.requires.0 (right-shape _ _ (rw s at c.shape_of.ensures)).0 _ (rw h at c.reading_of.ensures) _ c.judged.ensures
