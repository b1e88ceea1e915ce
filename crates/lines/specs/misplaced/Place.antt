-- How a line of an earlier section than one already read, or of none, is refused.
use Rattle.std.specs.Prelude.{ℕ, ◌≡◌, ◌≢◌, true, cond, List, Result, Ok, Err}
use Rattle.text.specs.Parts.{split}
use Rattle.papers.specs.declared.Refusal.{Refusal}
use Rattle.papers.specs.declared.refused.Field.{Field}
use Rattle.papers.specs.Checks.{refusal, field_refusal}
use Rattle.tables.specs.declared.Tables.{Tables}
use Rattle.text.specs.Line.{Line}
use Rattle.lines.specs.Line.{Section, unknown, section_of}
use Rattle.lines.specs.Checks.{shaped, shape_field, later_read}
use Rattle.lines.specs.Told.{Refuses}

-- Line k behind a later section: 5 ORDER; but 4 SHAPE where the line is not shaped, which is the smaller number.
abbrev pub late_refusal : Section → ℕ → Line → Refusal
late_refusal s k f = cond (shaped s f) (refusal 5 k) (field_refusal 4 k (shape_field s f))

-- The same by what is told of the line's shape.
abbrev pub late_told : {A : Type 0} → Result A Field → ℕ → Refusal
late_told (Ok words) k = refusal 5 k
late_told (Err x) k = field_refusal 4 k x.0

-- Line k, by the checks of its section, whatever was read before it.
pub record Misplaced (k : ℕ) (line : List ℕ) (why : Refusal) : Type 0 where
  pub some : why.number ≢ 0
  pub later : (t : Tables) → later_read (section_of (split 9 line)) t ≡ true → Refuses t k line why
  pub no_section : section_of (split 9 line) ≡ unknown → (t : Tables) → Refuses t k line why
