-- What an answer of the reader means: each refusal is given only under its row, and what is accepted are tables to reason about.
use Rattle.std.specs.Prelude.{ℕ, zero, suc, ◌+◌, ◌<◌, ◌≡◌, ◌⊎◌, true, false, List, [], ◌∷◌, length, get_or, drop}
use Rattle.rules.specs.Rules.{NoEntryDirectly, NoEntry}
use Rattle.rules.specs.Promises.{Accepted}
use Rattle.text.specs.Parts.{split, lines}
use Rattle.text.specs.Words.{protocol_header}
use Rattle.papers.specs.Checks.{ToldBy}
use Rattle.papers.specs.declared.Refusal.{Refusal}
use Rattle.papers.specs.Opening.{is_too_big, has_no_end, last_line, wrong_header, opening_checks, opening_of, Opens}
use Rattle.tables.specs.declared.Tables.{Tables}
use Rattle.tables.specs.Tables.{cleared_tables}
use Rattle.tables.specs.Cells.{cells_of, transient_of, relations_of_tables}
use Rattle.tables.specs.Relations.{cell_at, FirstNoEntry}
use Rattle.text.specs.Line.{Line}
use Rattle.lines.specs.Line.{Section, section_of}
use Rattle.lines.specs.Checks.{shaped, shape_field, later_read, bad_name, name_field, is_not_known, unknown_field, twice, full, stall_in_stable, conflict, line_checks, line_refusal}
use Rattle.protocol.specs.whole.Whole.{Reading}
use Rattle.protocol.specs.whole.Whole.{refused, accepted, cell_line_lem, whole_checks, whole_refusal}
use Rattle.protocol.specs.sections.Lines.{stored}
use Rattle.protocol.specs.Reading.{read_protocol_lem}
use Rattle.protocol.specs.whole.Kept.{Kept}

-- ---- the lines, one after the other

-- The tables after the first i lines.
unfoldable pub after : ℕ → List (List ℕ) → Tables → Tables
after zero ls t = t
after (suc i) [] t = t
after (suc i) (l ∷ ls) t = after i ls (stored t (split 9 l))

-- The fields of the line at place i.
abbrev pub fields_at : List (List ℕ) → ℕ → Line
fields_at ls i = split 9 (get_or ls i [])

-- How the line at place i is refused. The first of the lines is line k.
abbrev pub refusal_at : Tables → ℕ → List (List ℕ) → ℕ → Refusal
refusal_at t k ls i = line_refusal (after i ls t) (k + i) (fields_at ls i)

-- The lines before place j are not refused.
pub record Unrefused (t : Tables) (k : ℕ) (ls : List (List ℕ)) (j : ℕ) : Type 0 where
  pub lines : (i : ℕ) → i < j → (refusal_at t k ls i).number ≡ 0

-- ---- the four answers

-- Refused before its lines are read, under the first of the rows 1 to 3 that is given.
pub record BadOpening (text : List ℕ) (r : Reading) : Type 0 where
  pub told : ToldBy (opening_checks protocol_header text) (opening_of protocol_header text)
  pub is : r ≡ refused (opening_of protocol_header text)

-- "The first bad line, and within it the smallest number."
pub record BadLine (t : Tables) (k : ℕ) (ls : List (List ℕ)) (r : Reading) : Type 0 where
  pub place : ℕ
  pub below : place < length ls
  pub before : Unrefused t k ls place
  pub told : ToldBy (line_checks (after place ls t) (k + place) (fields_at ls place)) (refusal_at t k ls place)
  pub is : r ≡ refused (refusal_at t k ls place)

-- "Then 12, 13."
pub record BadWhole (t : Tables) (k : ℕ) (ls : List (List ℕ)) (r : Reading) : Type 0 where
  pub before : Unrefused t k ls (length ls)
  pub told : ToldBy (whole_checks (after (length ls) ls t)) (whole_refusal (after (length ls) ls t))
  pub is : r ≡ refused (whole_refusal (after (length ls) ls t))

-- Nothing is refused: the tables are those after the last line.
pub record AllRead (t : Tables) (k : ℕ) (ls : List (List ℕ)) (r : Reading) : Type 0 where
  pub before : Unrefused t k ls (length ls)
  pub whole : (whole_refusal (after (length ls) ls t)).number ≡ 0
  pub is : r ≡ accepted (after (length ls) ls t)

abbrev pub LinesAnswered : Tables → ℕ → List (List ℕ) → Reading → Type 0
LinesAnswered t k ls r = AllRead t k ls r ⊎ (BadLine t k ls r ⊎ BadWhole t k ls r)

-- The lines behind the header.
abbrev pub lines_of : List ℕ → List (List ℕ)
lines_of text = drop 1 (lines text)

-- Every answer is one of the four, in the order of the paper.
abbrev pub EveryAnswer : Type 0
EveryAnswer = (text : List ℕ) →
    BadOpening text (read_protocol_lem text) ⊎ (Opens protocol_header text × LinesAnswered cleared_tables 2 (lines_of text) (read_protocol_lem text))

-- ---- the rows 1 to 13

-- The tables before the line at place i, and those after the last line.
abbrev pub before : List ℕ → ℕ → Tables
before text i = after i (lines_of text) cleared_tables

abbrev pub at_end : List ℕ → Tables
at_end text = before text (length (lines_of text))

abbrev pub line_of : List ℕ → ℕ → Line
line_of text i = fields_at (lines_of text) i

abbrev pub section_of_line : List ℕ → ℕ → Section
section_of_line text i = section_of (line_of text i)

-- The lines behind the header before place i are not refused.
abbrev pub Unbroken : List ℕ → ℕ → Type 0
Unbroken text i = Unrefused cleared_tables 2 (lines_of text) i

-- There is a line at place i, and no line before it is refused.
abbrev pub Comes : List ℕ → ℕ → Type 0
Comes text i = (i < length (lines_of text)) × Unbroken text i

-- Why a text is refused with this number, at this line, and with this field told.
pub data Why (text : List ℕ) : ℕ → ℕ → ℕ → Type 0 where
  too_big : is_too_big text ≡ true → Why text 1 0 0
  no_end : has_no_end text ≡ true → Why text 2 (last_line text) 0
  header : wrong_header protocol_header text ≡ true → Why text 3 1 0
  shape : (i : ℕ) → Comes text i → shaped (section_of_line text i) (line_of text i) ≡ false → Why text 4 (2 + i) (shape_field (section_of_line text i) (line_of text i))
  order : (i : ℕ) → Comes text i → later_read (section_of_line text i) (before text i) ≡ true → Why text 5 (2 + i) 0
  name : (i : ℕ) → Comes text i → bad_name (section_of_line text i) (line_of text i) ≡ true → Why text 6 (2 + i) (name_field (section_of_line text i))
  not_declared : (i : ℕ) → Comes text i → is_not_known (section_of_line text i) (before text i) (line_of text i) ≡ true → Why text 7 (2 + i) (unknown_field (section_of_line text i) (before text i) (line_of text i))
  declared_twice : (i : ℕ) → Comes text i → twice (section_of_line text i) (before text i) (line_of text i) ≡ true → Why text 8 (2 + i) (name_field (section_of_line text i))
  too_many : (i : ℕ) → Comes text i → full (section_of_line text i) (before text i) ≡ true → Why text 9 (2 + i) 0
  stall_stable : (i : ℕ) → Comes text i → stall_in_stable (section_of_line text i) (before text i) (line_of text i) ≡ true → Why text 10 (2 + i) 0
  clashes : (i : ℕ) → Comes text i → conflict (section_of_line text i) (before text i) (line_of text i) ≡ true → Why text 11 (2 + i) 0
  no-message : Unbroken text (length (lines_of text)) → (at_end text).message_count ≡ 0 → Why text 12 0 0
  no-entry : Unbroken text (length (lines_of text)) → (i : ℕ) → i < (at_end text).cell_count → FirstNoEntry (at_end text) i → Why text 13 (cell_line_lem (at_end text) i) 0

-- "Each refusal is given only under its row."
abbrev pub OnlyUnderItsRow : Type 0
OnlyUnderItsRow = (text : List ℕ) → ((read_protocol_lem text).refusal.number ≡ 0 → ⊥) → Why text (read_protocol_lem text).refusal.number (read_protocol_lem text).refusal.line (read_protocol_lem text).refusal.field

-- What the mended rule (C-12) leaves: "13 is now given when no taken state has a carrier; its place is unchanged". A text that 13 did not refuse is still not refused by it:
-- where it refuses, no line is refused, and the cell whose line is told has no entry with a carrier, as it was before.
pub record RefusedAsBefore (text : List ℕ) : Type 0 where
  pub lines : Unbroken text (length (lines_of text))
  pub cell : ℕ
  pub stored : cell < (at_end text).cell_count
  pub told : (read_protocol_lem text).refusal.line ≡ cell_line_lem (at_end text) cell
  pub directly : NoEntryDirectly (cells_of (at_end text)) (cell_at (at_end text) cell)

abbrev pub OldTextsRemain : Type 0
OldTextsRemain = (text : List ℕ) → (read_protocol_lem text).refusal.number ≡ 13 → RefusedAsBefore text

-- ---- what is accepted

pub record AcceptedReading (r : Reading) : Type 0 where
  pub line : r.refusal.line ≡ 0
  pub kept : Kept r.tables
  pub some : 0 < r.tables.message_count
  pub entries : (i : ℕ) → i < r.tables.cell_count → ¬ NoEntry (transient_of r.tables) (cells_of r.tables) (cell_at r.tables i)
  pub relations : Accepted (relations_of_tables r.tables)

abbrev pub AcceptedKept : Type 0
AcceptedKept = (text : List ℕ) → (read_protocol_lem text).refusal.number ≡ 0 → AcceptedReading (read_protocol_lem text)

-- A refusal leaves tables as they were cleared.
abbrev pub RefusedCleared : Type 0
RefusedCleared = (text : List ℕ) → ((read_protocol_lem text).refusal.number ≡ 0 → ⊥) → (read_protocol_lem text).tables ≡ cleared_tables
