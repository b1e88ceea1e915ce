-- `tables::conflicts::any_clash` meets its contract.
use Rattle.std.proofs.Common.{sym, ◌∙◌, rules, tests}
use Rattle.std.proofs.lemmas.Iterator.{YieldsList-from_slice}
use Rattle.std.proofs.lemmas.Iterator.Search.{any_from_yields_List}
use Rattle.tables.specs.Clash.{clashes}
use Rattle.tables.proofs.conflicts.Clashes.{any-clash-tests}
use Rattle.tables.proofs.conflicts.any_clash.Goals as goal

pub returns : goal.returns
returns c =
    any_from_yields_List (λ d. clashes d c.args.c.now) _ _ _ c.any.ensures.ran (YieldsList-from_slice c.args.cells.now (cc)) (λ x b q k. search (rules, tests))
    ∙ sym (any-clash-tests c.args.c.now c.args.cells.now)
