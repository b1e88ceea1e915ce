-- What is told of a line that declares something: how it is refused, and what it stands for.
use Rattle.std.specs.Prelude.{ℕ, ◌≡◌, List, Result, IfOk}
use Rattle.text.specs.Parts.{split}
use Rattle.text.specs.Line.{Line}
use Rattle.papers.specs.declared.refused.Refused.{Refused}
use Rattle.papers.specs.refused.Refused.{refusal_of}
use Rattle.tables.specs.declared.Tables.{Tables}
use Rattle.lines.specs.Told.{Refuses}

-- Of line k, behind all tables that were read so: a line that is not refused stands for its row.
pub record LineTold {Row : Type 0} (ReadSo : Tables → Type 0) (row_of : Line → Row) (k : ℕ) (line : List ℕ) (r : Result Row Refused) : Type 0 where
  pub told : (t : Tables) → ReadSo t → Refuses t k line (refusal_of r)
  pub row : IfOk r (λ row. row ≡ row_of (split 9 line))
