-- `text::names::no_name` meets its contract.
use mathlib.Core.Path.{refl}
use Rattle.text.specs.Name.{name_of_lem}
use Rattle.text.proofs.names.no_name.Goals as goal

pub returns : goal.returns
unfolding name_of_lem
returns c = refl
