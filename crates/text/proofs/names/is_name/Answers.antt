-- `text::names::is_name` meets its contract.
use mathlib.Core.Path.{sym, ◌∙◌}
use Rattle.std.proofs.Common.{rules, tests}
use Rattle.std.proofs.lemmas.Iterator.{YieldsList-from_slice}
use Rattle.std.proofs.lemmas.Iterator.Search.{all_from_yields_List}
use Rattle.text.specs.Name.{is_name_byte}
use Rattle.text.proofs.NameLaws.{rule-short, rule-bytes, every-all}
use Rattle.text.proofs.names.is_name.Goals as goal

pub returns-then-contains : goal.returns-then-contains
returns-then-contains c =
    let part = c.args.part.now in
    all_from_yields_List is_name_byte _ _ _ c.all.ensures.ran (YieldsList-from_slice part cc) (λ x b q k. search (rules, tests))
    ∙ every-all is_name_byte part ∙ sym (rule-bytes part (search (rules, tests)) (search (rules, tests)))

pub returns-else-contains : goal.returns-else-contains
returns-else-contains c = c.if-contains.false ∙ sym (rule-short c.args.part.now (λ h k. search (rules, tests)))
