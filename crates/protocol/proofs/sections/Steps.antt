-- One step of the reading: the next line is refused, or it is stored and the reading goes on behind it.
use Prim.Native.Nat.{ℕ, suc, ◌+◌, ◌≤◌, ◌<◌}
use mathlib.Core.Path.{◌≡◌, refl, ◌∙◌}
use mathlib.Core.List.{List}
use native.Mathlib.Numerals.{add-one}
use lib.ListN.{length, drop}
use Rattle.text.specs.Parts.{place, split, lines}
use Rattle.text.proofs.Lines.{lines_end}
use Rattle.papers.specs.declared.Refusal.{Refusal}
use Rattle.papers.specs.Lined.{Lined}
use Rattle.papers.proofs.Walk.{walk-next}
use Rattle.tables.specs.declared.Tables.{Tables}
use Rattle.lines.specs.Told.{Refuses}
use Rattle.lines.specs.Checks.{line_refusal}
use Rattle.protocol.specs.sections.Sections.{line_at}
use Rattle.protocol.specs.whole.Whole.{refused, accepted, unless, whole_refusal}
use Rattle.protocol.specs.sections.Lines.{stored, read_lines}
use Rattle.protocol.proofs.whole.Unless.{unless-passed, unless-refused}

module _ (text : List ℕ) (at : ℕ) (lined : Lined text at) (h : at < length text) where
  one : (t : Tables) (line : ℕ) → read_lines line (lines (drop at text)) t
      ≡ unless (line_refusal t line (split 9 (line_at text at))) (read_lines (suc line) (lines (drop (place 10 text at (length text) + 1) text)) (stored t (split 9 (line_at text at))))
  unfolding read_lines
  one t line = rw (walk-next text at lined h).first refl

  pub step-on : (t : Tables) (line : ℕ) (why : Refusal) → Refuses t line (line_at text at) why → why.number ≡ 0
      → read_lines line (lines (drop at text)) t ≡ read_lines (line + 1) (lines (drop (place 10 text at (length text) + 1) text)) (stored t (split 9 (line_at text at)))
  step-on t line why f e = rw add-one (one t line ∙ rw f (unless-passed why (read_lines (suc line) (lines (drop (place 10 text at (length text) + 1) text)) (stored t (split 9 (line_at text at)))) e))

  pub step-bad : (t : Tables) (line : ℕ) (why : Refusal) → Refuses t line (line_at text at) why → (why.number ≡ 0 → ⊥) → read_lines line (lines (drop at text)) t ≡ refused why
  step-bad t line why f g = one t line ∙ rw f (unless-refused why (read_lines (suc line) (lines (drop (place 10 text at (length text) + 1) text)) (stored t (split 9 (line_at text at)))) g)

-- the end of the text
pub step_end : (text : List ℕ) (at line : ℕ) (t : Tables) → length text ≤ at → read_lines line (lines (drop at text)) t ≡ unless (whole_refusal t) (accepted t)
unfolding read_lines
step_end text at line t h = rw (lines_end text at h) refl
