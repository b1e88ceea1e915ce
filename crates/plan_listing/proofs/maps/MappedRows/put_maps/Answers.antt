-- `plan_listing::maps::MappedRows::put_maps` meets its contract.
use mathlib.Core.Path.{◌≡◌, refl, subst}
use mathlib.Core.List.{List, [], ◌∷◌, ◌++◌}
use Prim.Native.Nat.{ℕ, ◌+◌, ◌≤◌}
use lib.ListN.{length, length-append}
use native.Mathlib.Omega.{arith}
use Rattle.std.proofs.lemmas.Slice.Zip.{zip_turn, zip_end}
use Rattle.text.specs.Name.{name_text}
use Rattle.text.specs.Written.{Wrote}
use Rattle.text.proofs.Written.{part_room, wrote-length}
use Rattle.mapping.specs.Text.{map_texts}
use Rattle.plan_listing.specs.PlanText.{map_text, first_networks}
use Rattle.plan_listing.proofs.Growing.{next-put}
use Rattle.plan_listing.proofs.Lines.{maps_to, maps-more, maps-fit, map-room, maps-all, no_row, no_network_lem}
use Rattle.plan_listing.proofs.maps.MappedRows.put_maps.Goals as goal

pub loop-row-init : goal.loop-row-init
unfolding map_texts first_networks
loop-row-init c = ((tt, tt), tt, refl, record { count = refl; bytes = refl })

pub put_map-at-requires : goal.put_map-at-requires
put_map-at-requires c =
    let ms = c.args.self.now.messages.now in
    let ns = c.args.self.now.networks.now in
    let seen = c.loop-row.yielded in
    let row = c.in-Some.row.now in
    let network = c.in-Some.network.now in
    let here =
    zip_turn ms ns seen c.into_iter-row-iterator.result c.loop-row.row-iterator c.next.new.self _ (cc) (cc) c.loop-row.yielded_by
    _ c.in-Some.is c.next.ensures.steps in
    let room = map-room no_row no_network_lem ms ns (length seen) here.0 here.1 row network (here.2 no_row) (here.3 no_network_lem) in
    part_room (map_text (name_text row.name) network.0) c.loop-row.out c.loop-row.at (omega (arith, c.loop-row.invariant.2, c.loop-row.invariant.3.count, c.requires))

pub loop-row-preserved : goal.loop-row-preserved
loop-row-preserved c =
    let ms = c.args.self.now.messages.now in
    let ns = c.args.self.now.networks.now in
    let seen = c.loop-row.yielded in
    let row = c.in-Some.row.now in
    let network = c.in-Some.network.now in
    let here =
    zip_turn ms ns seen c.into_iter-row-iterator.result c.loop-row.row-iterator c.next.new.self _ (cc) (cc) c.loop-row.yielded_by
    _ c.in-Some.is c.next.ensures.steps in
    let next = maps-more no_row no_network_lem ms ns (length seen) here.0 here.1 row network (here.2 no_row) (here.3 no_network_lem) in
    let within = maps-fit no_row no_network_lem ms ns (length seen) here.0 here.1 in
    let room : length (maps_to ms ns (length seen + 1)) ≤ length c.args.out.now = omega (arith, c.requires) in
    let w = next-put _ _ _ c.args.out.now _ _ next room c.loop-row.invariant.3 _ _ c.put_map-at.ensures in
    let one_more : length (seen ++ ((c.in-Some.row, c.in-Some.network) ∷ [])) ≡ length seen + 1 = length-append _ _ in
    ((tt, tt), tt, wrote-length _ _ _ _ room w, rw one_more w)

pub returns : goal.returns
returns c =
    let ms = c.args.self.now.messages.now in
    let ns = c.args.self.now.networks.now in
    let seen = c.loop-row.yielded in
    let many =
    zip_end ms ns seen c.into_iter-row-iterator.result c.loop-row.row-iterator c.next.new.self _ (cc) (cc) c.loop-row.yielded_by
    c.in-None.is c.next.ensures.steps in
    subst (λ (l : List ℕ). Wrote l c.args.out.now c.loop-row.out c.loop-row.at) (maps-all no_row no_network_lem ms ns (length seen) many) c.loop-row.invariant.3
