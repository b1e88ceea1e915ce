-- Reading the lines of a protocol text, one after the other.
use Rattle.std.specs.Prelude.{ℕ, suc, List, [], ◌∷◌}
use Rattle.text.specs.Parts.{split}
use Rattle.tables.specs.declared.Tables.{Tables}
use Rattle.tables.specs.Tables.{with_message, with_event, with_state, with_cell}
use Rattle.protocol.specs.whole.Whole.{Reading, accepted, unless, whole_refusal}
use Rattle.text.specs.Line.{Line}
use Rattle.lines.specs.Line.{Section, message, event, state, cell, unknown, section_of, message_of, event_of, state_of, cell_of}
use Rattle.lines.specs.Checks.{line_refusal}

-- ---- a line is stored

abbrev pub stored_in : Section → Tables → Line → Tables
stored_in message t f = with_message t (message_of f)
stored_in event t f = with_event t (event_of f)
stored_in state t f = with_state t (state_of f)
stored_in cell t f = with_cell t (cell_of t f)
stored_in unknown t f = t

abbrev pub stored : Tables → Line → Tables
stored t f = stored_in (section_of f) t f

-- ---- the reading

-- The lines from line k on, after t was read.
unfoldable pub read_lines : ℕ → List (List ℕ) → Tables → Reading
read_lines k [] t = unless (whole_refusal t) (accepted t)
read_lines k (l ∷ ls) t =
    let rest = read_lines (suc k) ls (stored t (split 9 l)) in
    unless (line_refusal t k (split 9 l)) rest
