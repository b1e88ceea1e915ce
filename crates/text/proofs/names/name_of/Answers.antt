-- `text::names::name_of` meets its contract.
use Rattle.text.proofs.NameLaws.{name-put}
use Rattle.text.proofs.names.name_of.Goals as goal

pub returns : goal.returns
returns c = name-put c.args.part.now c.put-n.new.out c.put-n.result c.put-n.ensures
