-- A section's loop: what holds whenever its test is reached, and how each line carries it on.
use Prim.Native.Nat.{ℕ, ◌+◌, ◌≤◌, ◌<◌}
use mathlib.Core.Path.{◌≡◌, refl, sym, ap, subst, ◌∙◌}
use mathlib.Core.List.{List}
use native.Mathlib.Omega.{arith}
use lib.ListN.{length, drop}
use borrow.Author.Tests.{lt-ltb}
use Rattle.text.specs.Parts.{place, split, lines}
use Rattle.papers.specs.declared.Refusal.{Refusal}
use Rattle.papers.proofs.Walk.{walk-next}
use Rattle.tables.specs.declared.Tables.{Tables}
use Rattle.tables.specs.Tables.{with_message, with_event, with_state, with_cell}
use Rattle.protocol.specs.whole.Whole.{refused}
use Rattle.protocol.specs.sections.Lines.{stored_in, read_lines}
use Rattle.protocol.specs.whole.Kept.{Kept}
use Rattle.protocol.specs.sections.Sections.{Placed, line_at, section_at, Stage, StageAfter, SectionsDone, section_lem}
use Rattle.protocol.proofs.sections.Steps.{step-on, step-bad}
use Rattle.std.specs.Prelude.{Result, Ok, Err}
use Rattle.text.specs.Line.{Line}
use Rattle.papers.specs.Checks.{none}
use Rattle.papers.specs.declared.refused.Refused.{Refused}
use Rattle.papers.specs.refused.Refused.{told_refusal}
use Rattle.lines.specs.Line.{Section, cell, section_of, says_of}
use Rattle.lines.specs.Told.{Refuses}
use Rattle.lines.proofs.Sections.{a-message, an-event, a-state, a-cell}
use Rattle.protocol.specs.declared.sections.Section.{Section as CodeSection}
use Rattle.protocol.specs.declared.sections.Section.TheVariants.{Message, Event, State, Cell}
use Rattle.protocol.specs.declared.sections.LineStart.{LineStart}
use Rattle.protocol.specs.sections.Told.{LineStored, Came, SectionTold, LineBehind}
use Rattle.protocol.proofs.sections.Leaving.{leave, leave-at-end, at-end}
use Rattle.protocol.proofs.sections.Lines.{not-of, misplaced-bad}
use mathlib.Core.Bool.{true, false}

-- From line `from-line` at the place `from`, with t₀, the reading came to line `line` at the place `at`, with t, and is in section s.
pub record Going (s : Section) (text : List ℕ) (from from-line : ℕ) (t₀ : Tables) (at line : ℕ) (t : Tables) : Type 0 where
  pub on : read_lines from-line (lines (drop from text)) t₀ ≡ read_lines line (lines (drop at text)) t
  pub kept : Kept t
  pub placed : Placed text at line
  pub stage : Stage s text at t

module _ (s : Section) (text : List ℕ) (from from-line : ℕ) (t₀ : Tables) (at line : ℕ) (t : Tables) (g : Going s text from from-line t₀ at line t) (h : at < length text) where
  abbrev end : ℕ
  end = place 10 text at (length text)

  -- the line is refused
  pub going-bad : (why : Refusal) → Refuses t line (line_at text at) why → (why.number ≡ 0 → ⊥) → read_lines from-line (lines (drop from text)) t₀ ≡ refused why
  going-bad why f z = g.on ∙ step-bad text at g.placed.lined h t line why f z

  -- the next line starts behind this one
  next-placed : Placed text (end + 1) (line + 1)
  next-placed =
      let w = walk-next text at g.placed.lined h in
      record { lined = w.more; small = g.placed.small; counted = omega (arith, w.from, g.placed.counted) }

  next-on : (why : Refusal) → Refuses t line (line_at text at) why → why.number ≡ 0 → (u : Tables) → stored_in (section_at text at) t (split 9 (line_at text at)) ≡ u
      → read_lines from-line (lines (drop from text)) t₀ ≡ read_lines (line + 1) (lines (drop (end + 1) text)) u
  next-on why f z u e = g.on ∙ step-on text at g.placed.lined h t line why f z ∙ ap (read_lines (line + 1) (lines (drop (end + 1) text))) e

-- a line whose first field is a section's word is of that section
pub of_section : (c : CodeSection) (f : Line) → says_of (section_lem c) f ≡ true → section_of f ≡ section_lem c
of_section Message f e = a-message f e
of_section Event f e = an-event f e
of_section State f e = a-state f e
of_section Cell f e = a-cell f e

-- storing a line of a section leaves the reading in it
pub stage-on : (c : CodeSection) (text : List ℕ) (at next : ℕ) (t : Tables) (f : Line) → Stage (section_lem c) text at t → Stage (section_lem c) text next (stored_in (section_lem c) t f)
unfolding with_message with_event with_state with_cell
stage-on Message text at next t f g = g
stage-on Event text at next t f g = (g.0, g.1, λ k w. lt-ltb 0 (t.event_count + 1 + t.state_count + t.cell_count) (omega arith))
stage-on State text at next t f g = (
  g.0,
  λ k w. lt-ltb 0 (t.event_count + (t.state_count + 1) + t.cell_count) (omega arith),
  λ k w. lt-ltb 0 (t.state_count + 1 + t.cell_count) (omega arith),
)
stage-on Cell text at next t f g = (
  λ k w. lt-ltb 0 (t.event_count + t.state_count + (t.cell_count + 1)) (omega arith),
  λ k w. lt-ltb 0 (t.state_count + (t.cell_count + 1)) (omega arith),
  λ k w. lt-ltb 0 (t.cell_count + 1) (omega arith),
)

-- the line is stored
pub going-on : (c : CodeSection) (text : List ℕ) (from from-line : ℕ) (t₀ : Tables) (at line : ℕ) (t u : Tables)
    → Going (section_lem c) text from from-line t₀ at line t → at < length text → says_of (section_lem c) (split 9 (line_at text at)) ≡ true
    → LineStored (section_lem c) line (line_at text at) t u (Ok tt)
    → Going (section_lem c) text from from-line t₀ (place 10 text at (length text) + 1) (line + 1) u
going-on c text from from-line t₀ at line t u g h w r =
    let s = section_lem c in
    let f = split 9 (line_at text at) in
    let e : stored_in (section_at text at) t f ≡ u = ap (λ (k : Section). stored_in k t f) (of_section c f w) ∙ sym r.stored.0 in
    record {
      on = next-on s text from from-line t₀ at line t g h none r.told refl u e;
      kept = r.stored.1;
      placed = next-placed s text from from-line t₀ at line t g h;
      stage = subst (Stage s text (place 10 text at (length text) + 1)) (sym r.stored.0) (stage-on c text at (place 10 text at (length text) + 1) t f g.stage);
    }

-- the section is left at the end of the text
pub going-out : (c : CodeSection) (text : List ℕ) (from : LineStart) (t₀ : Tables) (at line : ℕ) (t : Tables)
    → Going (section_lem c) text from.at from.line t₀ at line t → length text ≤ at → Came (section_lem c) text from t₀ (record { at = at; line = line }) t
going-out c text from t₀ at line t g h =
    record { on = g.on; kept = g.kept; placed = g.placed; stage = leave-at-end c text at t h (leave c text at t g.stage (at-end (section_lem c) text at h)) }

-- the section is left at a line that is not of it: the next section begins there, or the line is refused
module _ (text : List ℕ) (from : LineStart) (t₀ : Tables) (at line : ℕ) (t : Tables) (h : at < length text) where
  abbrev pub here : LineStart
  here = record { at = at; line = line }

  next-begins : (c : CodeSection) → Going (section_lem c) text from.at from.line t₀ at line t → StageAfter (section_lem c) text at t → (r : Result LineStart Refused) → r ≡ Ok here
      → SectionTold (section_lem c) text from t₀ t r
  next-begins c g s r e =
      subst (SectionTold (section_lem c) text from t₀ t) (sym e)
      (record { came = record { on = g.on; kept = g.kept; placed = g.placed; stage = s }; bad = tt })

  none-behind : Going cell text from.at from.line t₀ at line t → SectionsDone text at t → (r : Result LineStart Refused) → LineBehind cell (line_at text at) here r
      → SectionTold cell text from t₀ t r
  none-behind g d (Ok to) b = absurd b
  none-behind g d (Err e) b = record { came = tt; bad = g.on ∙ misplaced-bad text at line t g.placed d h (told_refusal e) b }

  pub going-behind : (c : CodeSection) → Going (section_lem c) text from.at from.line t₀ at line t → says_of (section_lem c) (split 9 (line_at text at)) ≡ false
      → (r : Result LineStart Refused) → LineBehind (section_lem c) (line_at text at) here r → SectionTold (section_lem c) text from t₀ t r
  going-behind Message g w r b = next-begins Message g (leave Message text at t g.stage (not-of Message text at w)) r b
  going-behind Event g w r b = next-begins Event g (leave Event text at t g.stage (not-of Event text at w)) r b
  going-behind State g w r b = next-begins State g (leave State text at t g.stage (not-of State text at w)) r b
  going-behind Cell g w r b = none-behind g (leave Cell text at t g.stage (not-of Cell text at w)) r b
