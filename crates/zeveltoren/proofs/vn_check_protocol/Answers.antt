-- What `zeveltoren::vn_check_protocol` packs is the answer of the check, and every number of it has its place.
use Rattle.std.proofs.Common.{sym, ap, subst, ◌∙◌}
use Rattle.answers.specs.Answers.{Small, packed_answer}
use Rattle.zeveltoren.proofs.Unpacked.{check-small}
use Rattle.zeveltoren.proofs.vn_check_protocol.Goals as goal

pub packed-requires : goal.packed-requires
packed-requires c = subst Small (sym c.checked.ensures) (check-small _)

pub returns : goal.returns
returns c = c.packed.ensures ∙ ap packed_answer c.checked.ensures
