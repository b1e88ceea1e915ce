-- Where a reading of a protocol text stands: at which line, and in which section.
use Rattle.std.specs.Prelude.{ℕ, ◌+◌, ◌≤◌, ◌<◌, ◌≡◌, true, List, length}
use Rattle.text.specs.Parts.{part, place, split}
use Rattle.papers.specs.Lined.{Lined}
use Rattle.protocol.specs.declared.sections.Section.{Section as CodeSection}
use Rattle.protocol.specs.declared.sections.Section.TheVariants.{Message, Event, State, Cell}
use Rattle.tables.specs.declared.Tables.{Tables}
use Rattle.lines.specs.Line.{Section, message, event, state, cell, unknown, section_of}
use Rattle.lines.specs.Checks.{later_read}

-- A line, or the end, of a text that is not too big stands at the place `at`. `line` is at most two more than the place, so it can be counted on.
pub record Placed (text : List ℕ) (at line : ℕ) : Type 0 where
  pub lined : Lined text at
  pub small : length text ≤ 49152
  pub counted : line ≤ at + 2

-- The line that starts at a place, and the section that it belongs to.
abbrev pub line_at : List ℕ → ℕ → List ℕ
line_at text at = part text at (place 10 text at (length text))

abbrev pub section_at : List ℕ → ℕ → Section
section_at text at = section_of (split 9 (line_at text at))

-- If the next line is of this section, a later one was read before it.
abbrev pub TooLate : Section → List ℕ → ℕ → Tables → Type 0
TooLate s text at t = at < length text → section_at text at ≡ s → later_read s t ≡ true

-- Only sections up to this one were read, and the next line is not of one before it, or it is too late for it.
abbrev pub Stage : Section → List ℕ → ℕ → Tables → Type 0
Stage message text at t = (t.event_count ≡ 0) × (t.state_count ≡ 0) × (t.cell_count ≡ 0)
Stage event text at t = (t.state_count ≡ 0) × (t.cell_count ≡ 0) × TooLate message text at t
Stage state text at t = (t.cell_count ≡ 0) × TooLate message text at t × TooLate event text at t
Stage cell text at t = TooLate message text at t × TooLate event text at t × TooLate state text at t
Stage unknown text at t = length text ≤ at

-- The four sections were read, and no line of them follows that is not too late.
abbrev pub SectionsDone : List ℕ → ℕ → Tables → Type 0
SectionsDone text at t = TooLate message text at t × TooLate event text at t × TooLate state text at t × TooLate cell text at t

-- A section was read to its end: the next one begins; behind the last one the text has ended.
abbrev pub StageAfter : Section → List ℕ → ℕ → Tables → Type 0
StageAfter message text at t = Stage event text at t
StageAfter event text at t = Stage state text at t
StageAfter state text at t = Stage cell text at t
StageAfter cell text at t = SectionsDone text at t × (length text ≤ at)
StageAfter unknown text at t = Stage unknown text at t

-- ---- the code's sections

abbrev pub section_lem : CodeSection → Section
section_lem Message = message
section_lem Event = event
section_lem State = state
section_lem Cell = cell
