-- `plan_listing::cycle::NamedCycle::put_line` meets its contract.
use mathlib.Core.List.{List, ◌++◌}
use Prim.Native.Nat.{ℕ, ◌+◌, ◌≤◌}
use lib.ListN.{length, length-append}
use native.Mathlib.Omega.{arith}
use Rattle.text.specs.Words.{cycle_word, newline}
use Rattle.text.proofs.Written.{part_room, then-more}
use Rattle.tables.specs.declared.MessageRow.{MessageRow}
use Rattle.plan_listing.specs.PlanText.{names_text, cycle_line, message_numbers}
use Rattle.plan_listing.proofs.Growing.{then-part}
use Rattle.plan_listing.proofs.cycle.NamedCycle.put_line.Goals as goal

-- there is room for the word, the names and the end of the line
room : (rows : List MessageRow) (cycle out : List ℕ) → length (cycle_line rows cycle) ≤ length out
    → length cycle_word + length (names_text rows cycle) + 1 ≤ length out
unfolding cycle_line
room rows cycle out h = let k = simp length-append at h in omega arith

pub put-a-requires : goal.put-a-requires
put-a-requires c = omega (arith, room c.args.self.now.rows.now (message_numbers c.args.self.now.cycle.now) c.args.out.now c.requires)

pub put_names-requires : goal.put_names-requires
put_names-requires c =
    let shown = message_numbers c.args.self.now.cycle.now in
    let fits = room c.args.self.now.rows.now shown c.args.out.now c.requires in
    part_room (names_text c.args.self.now.rows.now shown) c.put-a.new.out c.put-a.result (omega arith)

pub more-requires : goal.more-requires
more-requires c = omega (arith, room c.args.self.now.rows.now (message_numbers c.args.self.now.cycle.now) c.args.out.now c.requires)

pub returns : goal.returns
unfolding cycle_line
returns c =
    let names = names_text c.args.self.now.rows.now (message_numbers c.args.self.now.cycle.now) in
    let out = c.args.out.now in
    let fits = room c.args.self.now.rows.now (message_numbers c.args.self.now.cycle.now) out c.requires in
    let at_names = then-part cycle_word names out _ _ (simp length-append (omega arith)) c.put-a.ensures _ _ c.put_names.ensures in
    then-more (cycle_word ++ names) newline out _ _ c.requires at_names _ _ c.more.ensures
