-- `plan_listing::maps::put_map` meets its contract.
use mathlib.Core.List.{◌++◌}
use lib.ListN.{length-append}
use native.Mathlib.Omega.{arith}
use Rattle.text.specs.Name.{name_text}
use Rattle.text.specs.Words.{map_word, tab, newline}
use Rattle.text.specs.Written.{decimal}
use Rattle.text.proofs.Written.{then-more}
use Rattle.mapping.specs.Text.{map_fields}
use Rattle.plan_listing.proofs.Lines.{map-text-length}
use Rattle.plan_listing.proofs.maps.put_map.Goals as goal

pub put-a-requires : goal.put-a-requires
put-a-requires c = omega (arith, map-text-length (name_text c.args.name) c.args.network.0)

pub more-b-requires : goal.more-b-requires
more-b-requires c = omega (arith, map-text-length (name_text c.args.name) c.args.network.0)

pub more_name-c-requires : goal.more_name-c-requires
more_name-c-requires c = omega (arith, map-text-length (name_text c.args.name) c.args.network.0)

pub more-d-requires : goal.more-d-requires
more-d-requires c = omega (arith, map-text-length (name_text c.args.name) c.args.network.0)

pub more_number-e-requires : goal.more_number-e-requires
more_number-e-requires c = omega (arith, map-text-length (name_text c.args.name) c.args.network.0)

pub more-requires : goal.more-requires
more-requires c = omega (arith, map-text-length (name_text c.args.name) c.args.network.0)

pub returns : goal.returns
unfolding map_fields
returns c =
    let out = c.args.out.now in
    let name = name_text c.args.name in
    let n = decimal c.args.network.0 in
    let fits = map-text-length name c.args.network.0 in
    let front = map_word ++ tab in
    let at_tab = then-more map_word tab out _ _ (simp length-append (omega arith)) c.put-a.ensures _ _ c.more-b.ensures in
    let at_name = then-more front name out _ _ (simp length-append (omega arith)) at_tab _ _ c.more_name-c.ensures in
    let at_second = then-more (front ++ name) tab out _ _ (simp length-append (omega arith)) at_name _ _ c.more-d.ensures in
    let at_number = then-more ((front ++ name) ++ tab) n out _ _ (simp length-append (omega arith)) at_second _ _ c.more_number-e.ensures in
    then-more (((front ++ name) ++ tab) ++ n) newline out _ _ c.requires at_number _ _ c.more.ensures
