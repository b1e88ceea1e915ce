-- `papers::opening` meets its contract.
use mathlib.Core.Path.{sym, ap, ◌∙◌}
use Prim.Native.Nat.{ℕ}
use lib.ListN.{length, take}
use lib.Seq.{length-take-le}
use native.Mathlib.Omega.{arith}
use borrow.Author.Tests.{not-true, not-false}
use Rattle.text.specs.Parts.{is_same_text}
use Rattle.text.proofs.Parts.{many-le, place-to}
use Rattle.papers.proofs.OpeningLaws.{too_big, empty, no_end, wrong-line, right-line}
use Rattle.papers.proofs.opening.Goals as goal

pub returns-then-n-gt-MOST_BYTES : goal.returns-then-n-gt-MOST_BYTES
returns-then-n-gt-MOST_BYTES c = c.whole.ensures ∙ sym (too_big c.args.header.now c.args.text.now (omega arith))

pub returns-then-n-eq0 : goal.returns-then-n-eq0
returns-then-n-eq0 c = c.whole-then-n-eq0.ensures ∙ sym (empty c.args.header.now c.args.text.now (omega arith))

pub overflow_add-count : goal.overflow_add-count
overflow_add-count c = omega (arith, many-le 10 c.args.text.now, c.count.ensures)

pub returns-then-text-n-ne10 : goal.returns-then-text-n-ne10
returns-then-text-n-ne10 c = c.whole-then-text-n-ne10.ensures ∙ rw c.count.ensures (sym (no_end c.args.header.now c.args.text.now (omega arith) (omega arith) c.if-text-n-ne10.true))

pub slice_bounds-same-end : goal.slice_bounds-same-end
slice_bounds-same-end c =
    let text = c.args.text.now in
    sym (length-take-le c.find-e.result text (omega (arith, c.find-e.ensures, place-to 10 text 0 (length text) (omega arith) (omega arith))))

pub returns-then-not-same : goal.returns-then-not-same
returns-then-not-same c =
    let text = c.args.text.now in
    let header = c.args.header.now in
    c.whole-then-not-same.ensures ∙ sym (wrong-line header text (omega arith) (omega arith) c.if-text-n-ne10.false
    (ap (λ (e : ℕ). is_same_text (take e text) header) (sym c.find-e.ensures) ∙ sym c.same.ensures ∙ not-true c.same.result c.if-not-same.true-raw))

pub returns : goal.returns
returns c =
    let text = c.args.text.now in
    let header = c.args.header.now in
    sym (right-line header text (omega arith) (omega arith) c.if-text-n-ne10.false
    (ap (λ (e : ℕ). is_same_text (take e text) header) (sym c.find-e.ensures) ∙ sym c.same.ensures ∙ not-false c.same.result c.if-not-same.false-raw))
