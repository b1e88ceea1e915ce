-- The next line of a text, as the code tells of it.
use Prim.Native.Nat.{ℕ, ◌+◌, ◌≤◌, ◌<◌}
use mathlib.Core.Path.{◌≡◌, refl, ap, ◌∙◌}
use mathlib.Core.Bool.{true, false}
use mathlib.Core.List.{List}
use native.Mathlib.Omega.{arith}
use lib.ListN.{length, drop}
use Rattle.text.specs.Parts.{part, split, lines}
use Rattle.papers.specs.declared.Refusal.{Refusal}
use Rattle.papers.proofs.Walk.{walk-next}
use Rattle.tables.specs.declared.Tables.{Tables}
use Rattle.lines.specs.Line.{Section, message, event, state, cell, unknown, says_of}
use Rattle.lines.specs.Told.{Refuses}
use Rattle.lines.specs.Checks.{later_read}
use Rattle.lines.specs.declared.next.NextLine.{NextLine}
use Rattle.lines.specs.next.Next.{Next}
use Rattle.lines.specs.misplaced.Place.{Misplaced}
use Rattle.lines.proofs.Sections.{not_in}
use Rattle.protocol.specs.declared.sections.Section.{Section as CodeSection}
use Rattle.protocol.specs.whole.Whole.{refused}
use Rattle.protocol.specs.sections.Lines.{read_lines}
use Rattle.protocol.specs.sections.Sections.{Placed, SectionsDone, line_at, section_at, section_lem}
use Rattle.protocol.proofs.sections.Steps.{step-bad}
use Rattle.protocol.proofs.sections.Leaving.{Leaves}

-- what the loop's sums need
pub record Room (text : List ℕ) (at line e : ℕ) : Type 0 where
  pub from : at ≤ e
  pub ends : e < length text
  pub small : length text ≤ 49152
  pub counted : line ≤ at + 2

module _ (text : List ℕ) (at : ℕ) (r : NextLine) (n : Next text at r) where
  -- the code's line is the one at this place
  pub the-line : r.line.bytes.now ≡ line_at text at
  the-line = n.line ∙ ap (part text at) n.ends

  pub room : (line : ℕ) → Placed text at line → at < length text → Room text at line r.end
  room line p h =
      let w = walk-next text at p.lined h in
      record { from = omega (arith, w.from, n.ends); ends = omega (arith, w.ends, n.ends); small = p.small; counted = p.counted }

-- its first field says that it is of another section
pub not-of : (c : CodeSection) (text : List ℕ) (at : ℕ) → says_of (section_lem c) (split 9 (line_at text at)) ≡ false → Leaves (section_lem c) text at
not-of c text at n h = not_in (section_lem c) (split 9 (line_at text at)) n

-- ---- a line behind the last section

module _ (text : List ℕ) (at line : ℕ) (t : Tables) (p : Placed text at line) (all : SectionsDone text at t) (h : at < length text) where
  no-cell : section_at text at ≡ cell → ⊥
  no-cell e = let z : false ≡ true = all.3 h e in not-true z
    where
      not-true : false ≡ true → ⊥
      not-true q = let z : ◌≡◌ {A = ℕ} 0 1 = cc in omega arith

  -- it is too late, or of no section
  module _ (why : Refusal) (m : Misplaced line (line_at text at) why) where
    late : (s : Section) → section_at text at ≡ s → later_read s t ≡ true → Refuses t line (line_at text at) why
    late s k q = m.later t (ap (λ (x : Section). later_read x t) k ∙ q)

    by-section : (s : Section) → section_at text at ≡ s → Refuses t line (line_at text at) why
    by-section message k = late message k (all.0 h k)
    by-section event k = late event k (all.1 h k)
    by-section state k = late state k (all.2 h k)
    by-section cell k = absurd (no-cell k)
    by-section unknown k = m.no_section k t

    pub misplaced-bad : read_lines line (lines (drop at text)) t ≡ refused why
    misplaced-bad = step-bad text at p.lined h t line why (by-section (section_at text at) refl) m.some
