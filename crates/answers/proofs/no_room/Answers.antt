-- `answers::no_room` meets its contract.
use mathlib.Core.Path.{refl}
use Rattle.answers.specs.Answers.{no_room_lem}
use Rattle.answers.proofs.no_room.Goals as goal

pub returns : goal.returns
unfolding no_room_lem
returns c = refl
