-- Tables as the reader keeps them.
use Rattle.std.specs.Prelude.{◌≡◌, length}
use Rattle.tables.specs.declared.Tables.{Tables}
use Rattle.tables.specs.Tables.{ClearedPast}
use Rattle.tables.specs.Cells.{TablesOk}

-- Numbers in range, and what is past a count as cleared.
pub record Kept (t : Tables) : Type 0 where
  pub ok : TablesOk t
  pub past : ClearedPast t
  pub long : length t.cells ≡ 512
