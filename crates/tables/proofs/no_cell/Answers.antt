-- `tables::no_cell` meets its contract.
use mathlib.Core.Path.{refl}
use Rattle.tables.proofs.no_cell.Goals as goal

pub returns : goal.returns
returns c = refl
