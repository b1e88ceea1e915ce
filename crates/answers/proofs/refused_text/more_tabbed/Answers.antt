-- `answers::refused_text::more_tabbed` meets its contract.
use Rattle.answers.proofs.refused_text.RefusedLaws.{tab-room, digits-room, tabbed}
use Rattle.answers.proofs.refused_text.more_tabbed.Goals as goal

pub more-b-requires : goal.more-b-requires
more-b-requires c = tab-room c.args.n c.args.at c.args.out.now c.requires

pub more_number-requires : goal.more_number-requires
more_number-requires c = digits-room c.args.n c.args.at c.args.out.now c.requires c.more-b.new.out c.more-b.result c.more-b.ensures

pub returns : goal.returns
returns c =
    tabbed c.args.n c.args.at c.args.out.now c.requires c.more-b.new.out c.more-b.result c.more-b.ensures
    c.more_number.new.out c.more_number.result c.more_number.ensures
