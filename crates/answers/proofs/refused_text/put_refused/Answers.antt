-- `answers::refused_text::put_refused` meets its contract.
use Rattle.answers.proofs.refused_text.RefusedLaws.{word_room, number-next, then-number, paper-next, then-paper, line-next, then-line, field_next, then-field, end-next, then-end}
use Rattle.answers.proofs.refused_text.put_refused.Goals as goal

pub put-a-requires : goal.put-a-requires
put-a-requires c = word_room c.args.why c.args.paper c.args.out.now c.requires.0

pub more_tabbed-b-requires : goal.more_tabbed-b-requires
more_tabbed-b-requires c = number-next c.args.why c.args.paper c.args.out.now c.requires.0 _ _ c.put-a.ensures

pub more_tabbed-c-requires : goal.more_tabbed-c-requires
more_tabbed-c-requires c =
    let number = then-number c.args.why c.args.paper c.args.out.now c.requires.0 _ _ c.put-a.ensures _ _ c.more_tabbed-b.ensures in
    paper-next c.args.why c.args.paper c.args.out.now c.requires.0 _ _ number

pub more_tabbed-d-requires : goal.more_tabbed-d-requires
more_tabbed-d-requires c =
    let number = then-number c.args.why c.args.paper c.args.out.now c.requires.0 _ _ c.put-a.ensures _ _ c.more_tabbed-b.ensures in
    let paper = then-paper c.args.why c.args.paper c.args.out.now c.requires.0 _ _ number _ _ c.more_tabbed-c.ensures in
    line-next c.args.why c.args.paper c.args.out.now c.requires.0 _ _ paper

pub more_tabbed-e-requires : goal.more_tabbed-e-requires
more_tabbed-e-requires c =
    let number = then-number c.args.why c.args.paper c.args.out.now c.requires.0 _ _ c.put-a.ensures _ _ c.more_tabbed-b.ensures in
    let paper = then-paper c.args.why c.args.paper c.args.out.now c.requires.0 _ _ number _ _ c.more_tabbed-c.ensures in
    let line = then-line c.args.why c.args.paper c.args.out.now c.requires.0 _ _ paper _ _ c.more_tabbed-d.ensures in
    field_next c.args.why c.args.paper c.args.out.now c.requires.0 _ _ line

pub more-requires : goal.more-requires
more-requires c =
    let number = then-number c.args.why c.args.paper c.args.out.now c.requires.0 _ _ c.put-a.ensures _ _ c.more_tabbed-b.ensures in
    let paper = then-paper c.args.why c.args.paper c.args.out.now c.requires.0 _ _ number _ _ c.more_tabbed-c.ensures in
    let line = then-line c.args.why c.args.paper c.args.out.now c.requires.0 _ _ paper _ _ c.more_tabbed-d.ensures in
    let field = then-field c.args.why c.args.paper c.args.out.now c.requires.0 _ _ line _ _ c.more_tabbed-e.ensures in
    end-next c.args.why c.args.paper c.args.out.now c.requires.0 _ _ field

pub returns : goal.returns
returns c =
    let number = then-number c.args.why c.args.paper c.args.out.now c.requires.0 _ _ c.put-a.ensures _ _ c.more_tabbed-b.ensures in
    let paper = then-paper c.args.why c.args.paper c.args.out.now c.requires.0 _ _ number _ _ c.more_tabbed-c.ensures in
    let line = then-line c.args.why c.args.paper c.args.out.now c.requires.0 _ _ paper _ _ c.more_tabbed-d.ensures in
    let field = then-field c.args.why c.args.paper c.args.out.now c.requires.0 _ _ line _ _ c.more_tabbed-e.ensures in
    then-end c.args.why c.args.paper c.args.out.now c.requires.0 _ _ field _ _ c.more.ensures
