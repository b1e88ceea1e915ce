-- What a reading of a protocol text gives, and what is asked of the whole text.
use Rattle.std.specs.Prelude.{ℕ, ◌+◌, Bool, cond, List, [], ◌∷◌, eqb, ltb, Result, Ok, Err}
use Rattle.std.proofs.Math.Bool.{decide}
use Rattle.rules.specs.Rules.{StateNo, Cell}
use Rattle.rules.proofs.Entry.{no-entry?}
use Rattle.text.specs.Parts.{first_index}
use Rattle.papers.specs.declared.Refusal.{Refusal}
use Rattle.papers.specs.declared.refused.Refused.{Refused}
use Rattle.papers.specs.refused.Refused.{told_refusal}
use Rattle.papers.specs.Checks.{Check, check, none, first_of}
use Rattle.tables.specs.declared.Tables.{Tables}
use Rattle.tables.specs.Tables.{cleared_tables}
use Rattle.tables.specs.Cells.{cells_of, transient_of}

-- What reading a protocol text gives: how it is refused, and the tables.
pub record Reading : Type 0 where
  pub refusal : Refusal
  pub tables : Tables

-- "A refusal returns number, paper, line": the refusal, and tables as they were cleared.
abbrev pub refused : Refusal → Reading
refused r = record { refusal = r; tables = cleared_tables }

abbrev pub accepted : Tables → Reading
accepted t = record { refusal = none; tables = t }

-- The reading that the code's answer is.
abbrev pub reading_of : Result Tables Refused → Reading
reading_of (Ok t) = accepted t
reading_of (Err e) = refused (told_refusal e)

-- The answer, where nothing is refused.
abbrev pub unless : Refusal → Reading → Reading
unless r a = cond (eqb r.number 0) a (refused r)

-- ---- the whole text: 12 and 13

-- 13 NO_ENTRY of one cell: a stalled message for whose state "no taken state has a carrier".
abbrev pub has_no_entry : (StateNo → Bool) → List Cell → Cell → Bool
has_no_entry transient cells c = decide (no-entry? transient cells c)

-- The first such cell, or the number of cells where there is none.
unfoldable pub no_entry_at : Tables → ℕ
no_entry_at t = first_index (has_no_entry (transient_of t) (cells_of t)) (cells_of t)

-- The line of cell i: the header and every other record stand before the cells.
abbrev pub cell_line_lem : Tables → ℕ → ℕ
cell_line_lem t i = 2 + t.message_count + t.event_count + t.state_count + i

-- 12 NO_MESSAGE: "no message in the whole text; line 0". 13 NO_ENTRY: "that cell's line, the first such".
abbrev pub whole_checks : Tables → List Check
whole_checks t =
    check 12 0 (eqb t.message_count 0)
    ∷ check 13 (cell_line_lem t (no_entry_at t)) (ltb (no_entry_at t) t.cell_count)
    ∷ []

unfoldable pub whole_refusal : Tables → Refusal
whole_refusal t = first_of (whole_checks t)
