-- What is told of the lines of a protocol text as they are read: of one line, of a section, and of the line behind a section.
use Rattle.std.specs.Prelude.{ℕ, ◌≡◌, List, drop, Result, Ok, IfOk, IfErr, MatchResult, ⊤}
use Rattle.text.specs.Parts.{lines, split}
use Rattle.papers.specs.declared.refused.Refused.{Refused}
use Rattle.papers.specs.refused.Refused.{told_refusal, refusal_of}
use Rattle.tables.specs.declared.Tables.{Tables}
use Rattle.lines.specs.Line.{Section, message, event, state, cell, unknown}
use Rattle.lines.specs.Told.{Refuses}
use Rattle.lines.specs.misplaced.Place.{Misplaced}
use Rattle.protocol.specs.declared.sections.LineStart.{LineStart}
use Rattle.protocol.specs.whole.Whole.{refused}
use Rattle.protocol.specs.whole.Kept.{Kept}
use Rattle.protocol.specs.sections.Lines.{stored_in, read_lines}
use Rattle.protocol.specs.sections.Sections.{Placed, StageAfter}

-- Line k, a record of section s, after t₀: how it is refused, and the tables after it. A line that is refused moves nothing.
pub record LineStored (s : Section) (k : ℕ) (line : List ℕ) (t₀ t : Tables) (r : Result ⊤ Refused) : Type 0 where
  pub told : Refuses t₀ k line (refusal_of r)
  pub stored : IfOk r (λ _. (t ≡ stored_in s t₀ (split 9 line)) × Kept t)
  pub unmoved : IfErr r (λ _. t ≡ t₀)

-- Section s was read, from a line on to the first that is not of it: what is left to read gives the whole reading.
pub record Came (s : Section) (text : List ℕ) (from : LineStart) (t₀ : Tables) (to : LineStart) (t : Tables) : Type 0 where
  pub on : read_lines from.line (lines (drop from.at text)) t₀ ≡ read_lines to.line (lines (drop to.at text)) t
  pub kept : Kept t
  pub placed : Placed text to.at to.line
  pub stage : StageAfter s text to.at t

-- The reading from a line on, after t₀, is refused so.
abbrev pub ReadingRefused : List ℕ → LineStart → Tables → Refused → Type 0
ReadingRefused text from t₀ e = read_lines from.line (lines (drop from.at text)) t₀ ≡ refused (told_refusal e)

pub record SectionTold (s : Section) (text : List ℕ) (from : LineStart) (t₀ t : Tables) (r : Result LineStart Refused) : Type 0 where
  pub came : IfOk r (λ to. Came s text from t₀ to t)
  pub bad : IfErr r (ReadingRefused text from t₀)

-- The line behind the last one of section s, to which the reading has come: the next section begins with it, but behind the last section it is refused.
abbrev pub LineBehind : Section → List ℕ → LineStart → Result LineStart Refused → Type 0
LineBehind message line here r = r ≡ Ok here
LineBehind event line here r = r ≡ Ok here
LineBehind state line here r = r ≡ Ok here
LineBehind cell line here r = MatchResult r (λ _. ⊥) (λ e. Misplaced here.line line (told_refusal e))
LineBehind unknown line here r = r ≡ Ok here
