-- The definition's count of row joins, held against counts by hand.
use mathlib.Core.Path.{refl}
use Rattle.rows.specs.Joins.{closing, ChainJoins, LateJoins, OwnJoins, MostJoins}

pub chain-joins : ChainJoins
unfolding closing
chain-joins = refl

pub late-joins : LateJoins
unfolding closing
late-joins = refl

pub own-joins : OwnJoins
unfolding closing
own-joins = refl

pub most-joins : MostJoins
unfolding closing
most-joins = refl
