-- `tables::names::state_named` meets its contract.
use mathlib.Core.Path.{◌≡◌, ◌∙◌}
use lib.ListN.{length}
use Rattle.std.specs.List.{position_or_len}
use Rattle.std.proofs.Common.{rules, tests}
use Rattle.std.proofs.lemmas.Iterator.{YieldsList-from_slice}
use Rattle.std.proofs.lemmas.Iterator.Search.{position_from_yields_List}
use Rattle.tables.specs.names.Names.{state_named_lem}
use Rattle.tables.proofs.names.Look.{found_place, found_here, found_none}
use Rattle.tables.proofs.names.state_named.Goals.{After-position}
use Rattle.tables.proofs.names.state_named.Goals as goal

-- what the search found
found : (c : After-position) → c.position.result ≡ found_place (position_or_len (state_named_lem c.args.controller c.args.part.now) c.args.states.now) (length c.args.states.now)
found c =
    position_from_yields_List (state_named_lem c.args.controller c.args.part.now) _ _ c.position.result c.position.ensures.ran
    (YieldsList-from_slice c.args.states.now (cc)) (λ x b q k. search (rules, tests))

pub returns-in_err-i : goal.returns-in_err-i
returns-in_err-i c =
    c.from_residual.ensures
    ∙ found_none (state_named_lem c.args.controller c.args.part.now) c.args.states.now (λ j. record { 0 = j }) c.position.result (found (goal.at.returns-in_err-i c).After-position) c.in_err-i.was

pub returns : goal.returns
returns c = found_here (state_named_lem c.args.controller c.args.part.now) c.args.states.now (λ j. record { 0 = j }) c.position.result (found (goal.at.returns c).After-position) c.in_ok-i.i c.in_ok-i.was
