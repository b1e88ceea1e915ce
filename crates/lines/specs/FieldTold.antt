-- What the field tells that a refused line tells (02-change-requests.md, C-14).
use Rattle.std.specs.Prelude.{ℕ, ◌≤◌, ◌<◌, ◌≡◌, false, length, ltb}
use Rattle.papers.specs.Fields.{BadAt}
use Rattle.tables.specs.declared.Tables.{Tables}
use Rattle.text.specs.Line.{Line}
use Rattle.lines.specs.Line.{Section, cell}
use Rattle.lines.specs.Checks.{shaped, fixed_words, shape_field, is_not_known, cell_names, unknown_field, line_refusal}

-- "SHAPE tells the first unknown or wrong fixed word": where a field is told it is a word that is there and wrong, each fixed word before it is
-- right, and the line is not shaped, whatever its count.
pub record WrongWord (s : Section) (f : Line) : Type 0 where
  pub bad : BadAt (fixed_words s f) (shape_field s f)
  pub shape : shaped s f ≡ false

abbrev pub ShapeTold : Type 0
ShapeTold = (s : Section) (f : Line) → 0 < shape_field s f → WrongWord s f

-- UNKNOWN always tells a field: the first name of the cell's line that is not known, and it is given just where there is one.
pub record UnknownName (t : Tables) (f : Line) : Type 0 where
  pub given : is_not_known cell t f ≡ ltb 0 (unknown_field cell t f)
  pub bad : 0 < unknown_field cell t f → BadAt (cell_names t f) (unknown_field cell t f)

abbrev pub UnknownTold : Type 0
UnknownTold = (t : Tables) (f : Line) → UnknownName t f

-- No field is told that the line has not.
abbrev pub FieldWithin : Type 0
FieldWithin = (t : Tables) (k : ℕ) (f : Line) → 0 < length f → (line_refusal t k f).field ≤ length f

-- And none above 14.
abbrev pub FieldLow : Type 0
FieldLow = (t : Tables) (k : ℕ) (f : Line) → (line_refusal t k f).field ≤ 14
