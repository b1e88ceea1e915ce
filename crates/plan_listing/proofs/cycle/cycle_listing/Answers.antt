-- `plan_listing::cycle::cycle_listing` meets its contract.
use mathlib.Core.Path.{◌≡◌, refl}
use mathlib.Core.List.{List}
use Prim.Native.Nat.{ℕ, ◌+◌, ◌≤◌}
use lib.ListN.{length, length-append}
use native.Mathlib.Omega.{arith}
use Rattle.text.proofs.Written.{part_room}
use Rattle.tables.specs.declared.MessageRow.{MessageRow}
use Rattle.answers.proofs.Listings.{listing-refused, listing-written}
use Rattle.plan_listing.specs.PlanText.{class_head, cycle_line, class_two, names_text, message_numbers}
use Rattle.plan_listing.specs.Lengths.{TextLength}
use Rattle.plan_listing.proofs.Growing.{then-part}
use Rattle.plan_listing.proofs.Lines.{class-two-length}
use Rattle.plan_listing.proofs.cycle.cycle_listing.Goals as goal

-- n is the length of the names; the listing is as long as its two parts, and that is what the code counts
counted : (rows : List MessageRow) (cycle : List ℕ) (n : ℕ) → TextLength (names_text rows cycle) 1600 n
    → (24 + n ≡ length (class_two rows cycle)) × (length (class_head 2) + length (cycle_line rows cycle) ≡ 24 + n)
unfolding class_two
counted rows cycle n e =
    let k = class-two-length rows cycle in
    let j = length-append (class_head 2) (cycle_line rows cycle) in
    (omega (arith, e.exact), omega (arith, e.exact))

pub returns-then-out-needed : goal.returns-then-out-needed
returns-then-out-needed c =
    let shown = message_numbers c.args.cycle.now in
    let same = counted c.args.messages.now shown _ c.names_length-needed.ensures in
    listing-refused (class_two c.args.messages.now shown) c.args.out.now _ _ same.0 (omega arith) refl

pub put_head-a-requires : goal.put_head-a-requires
put_head-a-requires c = omega (arith, counted c.args.messages.now (message_numbers c.args.cycle.now) _ c.names_length-needed.ensures)

pub put_line-requires : goal.put_line-requires
put_line-requires c =
    let shown = message_numbers c.args.cycle.now in
    let same = counted c.args.messages.now shown _ c.names_length-needed.ensures in
    part_room (cycle_line c.args.messages.now shown) c.put_head-a.new.out c.put_head-a.result (omega arith)

pub returns : goal.returns
unfolding class_two
returns c =
    let shown = message_numbers c.args.cycle.now in
    let out = c.args.out.now in
    let same = counted c.args.messages.now shown _ c.names_length-needed.ensures in
    let fits : length (class_two c.args.messages.now shown) ≤ length out = omega arith in
    listing-written (class_two c.args.messages.now shown) out _ _ _ fits
    (then-part (class_head 2) (cycle_line c.args.messages.now shown) out _ _ fits c.put_head-a.ensures _ _ c.put_line.ensures)
    refl
