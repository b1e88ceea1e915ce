-- Leaving a section's loop: at a line that is not of the section, or at the end of the text.
use Prim.Native.Nat.{ℕ, ◌+◌, ◌≤◌, ◌<◌}
use mathlib.Core.Path.{◌≡◌, refl}
use mathlib.Core.Bool.{false}
use borrow.Author.Tests.{le-ltb}
use mathlib.Core.List.{List}
use native.Mathlib.Omega.{arith}
use lib.ListN.{length}
use Rattle.tables.specs.declared.Tables.{Tables}
use Rattle.protocol.specs.declared.sections.Section.{Section as CodeSection}
use Rattle.protocol.specs.declared.sections.Section.TheVariants.{Message, Event, State, Cell}
use Rattle.lines.specs.Checks.{later_read}
use Rattle.lines.specs.Line.{Section, message, event, state, cell}
use Rattle.protocol.specs.sections.Sections.{section_at, TooLate, Stage, StageAfter, SectionsDone, section_lem}

-- The next line is not of this section, or there is none.
abbrev pub Leaves : Section → List ℕ → ℕ → Type 0
Leaves s text at = at < length text → section_at text at ≡ s → ⊥

pub at-end : (s : Section) (text : List ℕ) (at : ℕ) → length text ≤ at → Leaves s text at
at-end s text at h k e = omega arith

too-late : (text : List ℕ) (at : ℕ) (t : Tables) (s : Section) → Leaves s text at → TooLate s text at t
too-late text at t s f h e = absurd (f h e)

-- what is known at a line of another section: the next section begins with it, or the last one is done
abbrev pub SectionLeft : CodeSection → List ℕ → ℕ → Tables → Type 0
SectionLeft Message text at t = Stage event text at t
SectionLeft Event text at t = Stage state text at t
SectionLeft State text at t = Stage cell text at t
SectionLeft Cell text at t = SectionsDone text at t

pub leave : (c : CodeSection) (text : List ℕ) (at : ℕ) (t : Tables) → Stage (section_lem c) text at t → Leaves (section_lem c) text at → SectionLeft c text at t
leave Message text at t p f = (p.1, p.2, too-late text at t message f)
leave Event text at t p f = (p.1, p.2, too-late text at t event f)
leave State text at t p f = (p.1, p.2, too-late text at t state f)
leave Cell text at t p f = (p.0, p.1, p.2, too-late text at t cell f)

-- at the end of the text every section is done
pub leave-at-end : (c : CodeSection) (text : List ℕ) (at : ℕ) (t : Tables) → length text ≤ at → SectionLeft c text at t → StageAfter (section_lem c) text at t
leave-at-end Message text at t h l = l
leave-at-end Event text at t h l = l
leave-at-end State text at t h l = l
leave-at-end Cell text at t h l = (l, h)

-- no later section was read
pub no-later : (c : CodeSection) (text : List ℕ) (at : ℕ) (t : Tables) → Stage (section_lem c) text at t → later_read (section_lem c) t ≡ false
no-later Message text at t p = le-ltb 0 (t.event_count + t.state_count + t.cell_count) (omega (arith, p.0, p.1, p.2))
no-later Event text at t p = le-ltb 0 (t.state_count + t.cell_count) (omega (arith, p.0, p.1))
no-later State text at t p = le-ltb 0 t.cell_count (omega (arith, p.0))
no-later Cell text at t p = refl
