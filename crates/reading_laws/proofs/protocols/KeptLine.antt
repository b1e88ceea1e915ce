-- A line that is not refused keeps the tables in order.
use borrow.Author.Tests.{leb-false}
use Prim.Native.Nat.{ℕ}
use mathlib.Core.Path.{◌≡◌, sym, ap, ◌∙◌}
use Rattle.papers.specs.declared.Refusal.{Refusal}
use Rattle.papers.specs.Checks.{first_of}
use Rattle.tables.specs.declared.Tables.{Tables}
use Rattle.text.specs.Line.{Line}
use Rattle.lines.specs.Line.{Section, message, event, state, cell, unknown, section_of, message_of, event_of, state_of, cell_of}
use Rattle.lines.specs.Checks.{section_checks, line_refusal}
use Rattle.lines.proofs.Reasons.{line_reason, section-told, tells-number}
use Rattle.cells.proofs.InRange.{cell-of-ok}
use Rattle.protocol.specs.sections.Lines.{stored_in, stored}
use Rattle.protocol.proofs.sections.Passed.{passed}
use Rattle.protocol.specs.whole.Kept.{Kept}
use Rattle.protocol.proofs.sections.Kept.{kept-message, kept-event, kept-state, kept-cell}

kept_in : (s : Section) (t : Tables) (k : ℕ) (f : Line) → Kept t → (first_of (section_checks s t k f)).number ≡ 0 → Kept (stored_in s t f)
kept_in message t k f h z = kept-message t h (message_of f) (leb-false 64 t.message_count (passed message t k f z).room)
kept_in event t k f h z = kept-event t h (event_of f) (leb-false 8 t.event_count (passed event t k f z).room)
kept_in state t k f h z = kept-state t h (state_of f) (leb-false 64 t.state_count (passed state t k f z).room)
kept_in cell t k f h z =
    let n : (line_reason cell t f).number ≡ 0 = sym (tells-number (line_reason cell t f) k) ∙ ap (λ (r : Refusal). r.number) (sym (section-told cell t k f)) ∙ z in
    kept-cell t h (cell_of t f) (leb-false 512 t.cell_count (passed cell t k f z).room) (cell-of-ok t f n)
kept_in unknown t k f h z = h

pub kept_line : (t : Tables) (k : ℕ) (f : Line) → Kept t → (line_refusal t k f).number ≡ 0 → Kept (stored t f)
unfolding line_refusal
kept_line t k f h z = kept_in (section_of f) t k f h z
