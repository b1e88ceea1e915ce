-- `plan_listing::maps::map_listing` meets its contract.
use mathlib.Core.Path.{◌≡◌, refl}
use mathlib.Core.List.{List, ◌++◌}
use Prim.Native.Nat.{ℕ, ◌+◌, ◌≤◌}
use lib.ListN.{length, length-append, length-take, length-drop}
use native.Mathlib.Omega.{arith}
use Rattle.text.specs.Words.{networks_word}
use Rattle.text.specs.Written.{decimal}
use Rattle.text.proofs.Written.{part_room}
use Rattle.tables.specs.declared.MessageRow.{MessageRow}
use Rattle.mapping.specs.Text.{map_texts}
use Rattle.answers.proofs.Listings.{listing-refused, listing-written}
use Rattle.plan_listing.specs.PlanText.{number_line, class_head, class_three, network_numbers}
use Rattle.plan_listing.specs.Lengths.{TextLength}
use Rattle.plan_listing.proofs.Growing.{then-part}
use Rattle.plan_listing.proofs.Lines.{class-three-length}
use Rattle.plan_listing.proofs.maps.map_listing.Goals as goal

-- d digits and n bytes of lines: the listing is as long as its three parts, and that is what the code counts
counted : (rows : List MessageRow) (networks : List ℕ) (count d n : ℕ) → TextLength (decimal count) 3 d → TextLength (map_texts rows networks) 2112 n
    → (28 + d + n ≡ length (class_three rows networks count))
    × (length (class_head 3) + length (number_line networks_word count) + length (map_texts rows networks) ≡ 28 + d + n)
unfolding class_three
counted rows networks count d n e f =
    let k = class-three-length rows networks count in
    let j = length-append (class_head 3 ++ number_line networks_word count) (map_texts rows networks) in
    let i = length-append (class_head 3) (number_line networks_word count) in
    (omega (arith, e.exact, f.exact), omega (arith, e.exact, f.exact))

pub returns-then-out-needed : goal.returns-then-out-needed
returns-then-out-needed c =
    let rows = c.args.messages.now in
    let networks = network_numbers c.args.networks.now in
    let same = counted rows networks c.args.count _ _ c.digits.ensures c.maps_length.ensures in
    listing-refused (class_three rows networks c.args.count) c.args.out.now _ _ same.0 (omega arith) refl

pub put_head-a-requires : goal.put_head-a-requires
put_head-a-requires c =
    let same = counted c.args.messages.now (network_numbers c.args.networks.now) c.args.count _ _ c.digits.ensures c.maps_length.ensures in
    omega arith

pub put_number_line-requires : goal.put_number_line-requires
put_number_line-requires c =
    let same = counted c.args.messages.now (network_numbers c.args.networks.now) c.args.count _ _ c.digits.ensures c.maps_length.ensures in
    part_room (number_line networks_word c.args.count) c.put_head-a.new.out c.put_head-a.result (omega arith)

pub put_maps-requires : goal.put_maps-requires
put_maps-requires c =
    let same = counted c.args.messages.now (network_numbers c.args.networks.now) c.args.count _ _ c.digits.ensures c.maps_length.ensures in
    simp (length-take, length-drop) (omega arith)

pub returns : goal.returns
unfolding class_three
returns c =
    let rows = c.args.messages.now in
    let networks = network_numbers c.args.networks.now in
    let out = c.args.out.now in
    let line = number_line networks_word c.args.count in
    let lines = map_texts rows networks in
    let same = counted rows networks c.args.count _ _ c.digits.ensures c.maps_length.ensures in
    let fits : length ((class_head 3 ++ line) ++ lines) ≤ length out = omega arith in
    let front = then-part (class_head 3) line out _ _ (simp length-append (omega arith)) c.put_head-a.ensures _ _ c.put_number_line.ensures in
    listing-written ((class_head 3 ++ line) ++ lines) out _ _ _ fits (then-part (class_head 3 ++ line) lines out _ _ fits front _ _ c.put_maps.ensures) refl
