-- Every number of the answer of `zeveltoren::vn_relations` has its place in the packed one.
use mathlib.Core.Path.{sym, subst}
use native.Mathlib.Omega.{arith}
use Rattle.relations.specs.answer.Packed.{RelationsSmall}
use Rattle.relations.proofs.Calls.{call-small}
use Rattle.zeveltoren.proofs.vn_relations.Goals as goal

pub packed-requires : goal.packed-requires
packed-requires c = subst RelationsSmall (sym c.from.ensures) (call-small 4 32 _ _ _ _ _ _ c.relations-told.ensures.call (omega arith))
