-- `plan_listing::maps::MappedRows::maps_length` meets its contract.
use mathlib.Core.Path.{◌≡◌, refl, ap}
use mathlib.Core.List.{[], ◌∷◌, ◌++◌}
use Prim.Native.Nat.{◌+◌}
use lib.ListN.{length, length-append}
use native.Mathlib.Omega.{arith}
use Rattle.std.proofs.lemmas.Slice.Zip.{zip_turn, zip_end}
use Rattle.mapping.specs.Text.{map_texts}
use Rattle.plan_listing.specs.PlanText.{first_networks}
use Rattle.plan_listing.proofs.Lines.{maps-longer, maps-all, no_row, no_network_lem}
use Rattle.plan_listing.proofs.maps.MappedRows.maps_length.Goals as goal

pub loop-row-init : goal.loop-row-init
unfolding map_texts first_networks
loop-row-init c = ((tt, tt), tt, record { exact = refl; few = omega arith })

pub loop-row-preserved : goal.loop-row-preserved
loop-row-preserved c =
    let ms = c.args.self.now.messages.now in
    let ns = c.args.self.now.networks.now in
    let seen = c.loop-row.yielded in
    let here =
    zip_turn ms ns seen c.into_iter-row-iterator.result c.loop-row.row-iterator c.next.new.self _ (cc) (cc) c.loop-row.yielded_by
    _ c.in-Some.is c.next.ensures.steps in
    let one_more : length (seen ++ ((c.in-Some.row, c.in-Some.network) ∷ [])) ≡ length seen + 1 = length-append _ _ in (
      (tt, tt),
      tt,
      rw one_more (maps-longer no_row no_network_lem ms ns (length seen) here.0 here.1 c.in-Some.row.now c.in-Some.network.now (here.2 no_row) (here.3 no_network_lem) _ _ c.loop-row.invariant.2 c.map_length-total.ensures),
    )

pub returns : goal.returns
returns c =
    let ms = c.args.self.now.messages.now in
    let ns = c.args.self.now.networks.now in
    let seen = c.loop-row.yielded in
    let many =
    zip_end ms ns seen c.into_iter-row-iterator.result c.loop-row.row-iterator c.next.new.self _ (cc) (cc) c.loop-row.yielded_by
    c.in-None.is c.next.ensures.steps in
    let all = maps-all no_row no_network_lem ms ns (length seen) many in
    record {
      exact = omega (arith, c.loop-row.invariant.2.exact, ap length all);
      few = omega (arith, c.loop-row.invariant.2.few, many, c.args.self.now.few);
    }
