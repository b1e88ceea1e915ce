-- `protocol::sections::read_section` meets its contract.
use Prim.Native.Nat.{ℕ, ◌+◌}
use mathlib.Core.Path.{◌≡◌, refl, sym, subst, ◌∙◌}
use mathlib.Core.Bool.{true, false}
use mathlib.Core.List.{List}
use native.Mathlib.Omega.{arith}
use Rattle.std.specs.Prelude.{Ok}
use Rattle.std.proofs.lemmas.Result.{err_from_is_err_and}
use Rattle.text.specs.Parts.{split}
use Rattle.papers.specs.refused.Refused.{told_refusal}
use Rattle.papers.proofs.Refusals.{told-some}
use Rattle.lines.specs.Line.{says_of}
use Rattle.lines.specs.Told.{Refuses}
use Rattle.protocol.specs.sections.Sections.{section_lem, line_at}
use Rattle.protocol.specs.sections.Told.{LineStored, LineBehind}
use Rattle.protocol.proofs.sections.Going.{Going, going-bad, going-on, going-out, going-behind}
use Rattle.protocol.proofs.sections.Leaving.{no-later}
use Rattle.protocol.proofs.sections.Lines.{Room, room, the-line}
use Rattle.protocol.proofs.sections.read_section.Goals.{After-next_line-next}
use Rattle.protocol.proofs.sections.read_section.Goals as goal

-- the line that was found ends within the text
found : (c : After-next_line-next) → Room c.args.text.now c.loop-here.here.at c.loop-here.here.line c.next_line-next.result.end
found c =
    let h = c.loop-here.here in
    room c.args.text.now h.at c.next_line-next.result c.next_line-next.ensures h.line c.loop-here.invariant.placed c.loop-here-test.true

pub loop-here-init : goal.loop-here-init
loop-here-init c = record { on = refl; kept = c.requires.0; placed = c.requires.1; stage = c.requires.2 }

pub next_line-next-requires : goal.next_line-next-requires
next_line-next-requires c = (c.loop-here.invariant.placed.lined, c.loop-here-test.true)

pub read_line-requires-clause-kept : goal.read_line-requires-clause-kept
read_line-requires-clause-kept c = c.loop-here.invariant.kept

pub read_line-requires-clause-order : goal.read_line-requires-clause-order
read_line-requires-clause-order c = no-later c.args.section c.args.text.now c.loop-here.here.at c.loop-here.t c.loop-here.invariant.stage

pub returns-in_err-read_line : goal.returns-in_err-read_line
returns-in_err-read_line c =
    let a = c.args in
    let l = c.loop-here in
    let n = c.next_line-next in
    let e = c.in_err-read_line.field-0.0 in
    let p = err_from_is_err_and c.from_residual.result c.from_residual.ensures.1 in
    let told : Refuses l.t l.here.line (line_at a.text.now l.here.at) (told_refusal e) =
    subst (λ (b : List ℕ). Refuses l.t l.here.line b (told_refusal e)) (the-line a.text.now l.here.at n.result n.ensures) (c.in_err-read_line.ensures).told in
    rw (p.1, p.2) (record {
      came = tt;
      bad = going-bad (section_lem a.section) a.text.now a.from.at a.from.line a.t.now l.here.at l.here.line l.t l.invariant c.loop-here-test.true (told_refusal e) told (told-some e);
    })

pub overflow_add-here : goal.overflow_add-here
overflow_add-here c = let r = found (goal.at.overflow_add-here c).After-next_line-next in omega (arith, r.ends, r.small)

pub overflow_add-here-in-loop-here : goal.overflow_add-here-in-loop-here
overflow_add-here-in-loop-here c = let r = found (goal.at.overflow_add-here-in-loop-here c).After-next_line-next in omega (arith, r.from, r.ends, r.small, r.counted)

pub loop-here-smaller : goal.loop-here-smaller
loop-here-smaller c = let r = found (goal.at.loop-here-smaller c).After-next_line-next in omega (arith, r.from, r.ends)

pub loop-here-preserved : goal.loop-here-preserved
loop-here-preserved c =
    let a = c.args in
    let l = c.loop-here in
    let n = c.next_line-next in
    let s = section_lem a.section in
    let same = the-line a.text.now l.here.at n.result n.ensures in
    let word : says_of s (split 9 (line_at a.text.now l.here.at)) ≡ true =
    subst (λ (b : List ℕ). says_of s (split 9 b) ≡ true) same (sym c.is_of.ensures ∙ c.if-not-is_of.false) in
    let told : LineStored s l.here.line (line_at a.text.now l.here.at) l.t c.read_line.new.t (Ok tt) =
    subst (λ (b : List ℕ). LineStored s l.here.line b l.t c.read_line.new.t (Ok tt)) same c.in_ok-read_line.ensures in
    subst (λ (k : ℕ). Going s a.text.now a.from.at a.from.line a.t.now (k + 1) (l.here.line + 1) c.read_line.new.t) (sym n.ensures.ends)
    (going-on a.section a.text.now a.from.at a.from.line a.t.now l.here.at l.here.line l.t c.read_line.new.t l.invariant c.loop-here-test.true word told)

pub behind-requires : goal.behind-requires
behind-requires c = sym c.is_of.ensures ∙ c.if-not-is_of.true

pub returns-then-not-is_of : goal.returns-then-not-is_of
returns-then-not-is_of c =
    let a = c.args in
    let l = c.loop-here in
    let n = c.next_line-next in
    let s = section_lem a.section in
    let same = the-line a.text.now l.here.at n.result n.ensures in
    let word : says_of s (split 9 (line_at a.text.now l.here.at)) ≡ false =
    subst (λ (b : List ℕ). says_of s (split 9 b) ≡ false) same (sym c.is_of.ensures ∙ c.if-not-is_of.true) in
    going-behind a.text.now a.from a.t.now l.here.at l.here.line l.t c.loop-here-test.true a.section l.invariant word c.behind.result
    (subst (λ (b : List ℕ). LineBehind s b l.here c.behind.result) same c.behind.ensures)

pub returns : goal.returns
returns c =
    let a = c.args in
    let l = c.loop-here in
    record {
      came = going-out a.section a.text.now a.from a.t.now l.here.at l.here.line l.t l.invariant (omega (arith, c.loop-here-test.false));
      bad = tt;
    }
