-- What is told of a state's line, while no cell was read.
use Rattle.std.specs.Prelude.{ℕ, ◌≡◌, List, length, Result}
use Rattle.papers.specs.declared.refused.Refused.{Refused}
use Rattle.tables.specs.declared.StateRow.{StateRow}
use Rattle.tables.specs.declared.Tables.{Tables}
use Rattle.tables.specs.Tables.{states_of}
use Rattle.lines.specs.Line.{state_of}
use Rattle.declarations.specs.Told.{LineTold}

pub record States (t : Tables) (states : List StateRow) : Type 0 where
  pub rows : states_of t ≡ states
  pub many : t.state_count ≡ length states
  pub no_cell : t.cell_count ≡ 0

-- Of line k.
abbrev pub StateTold : ℕ → List ℕ → List StateRow → Result StateRow Refused → Type 0
StateTold k line states r = LineTold (λ t. States t states) state_of k line r
