-- `plan_listing::put_head` meets its contract.
use mathlib.Core.List.{List, ◌++◌}
use Prim.Native.Nat.{ℕ, ◌+◌, ◌≤◌}
use lib.ListN.{length, length-append}
use native.Mathlib.Omega.{arith}
use Rattle.text.specs.Words.{plan_header, class_word, newline}
use Rattle.text.proofs.Written.{part_room, then-more}
use Rattle.plan_listing.specs.PlanText.{number_line, class_head}
use Rattle.plan_listing.proofs.Growing.{then-part}
use Rattle.plan_listing.proofs.put_head.Goals as goal

-- there is room for the header, the end of its line and the line of the class
room : (class : ℕ) (out : List ℕ) → length (class_head class) ≤ length out
    → length plan_header + 1 + length (number_line class_word class) ≤ length out
unfolding class_head
room class out h = let k = simp length-append at h in omega arith

pub put-a-requires : goal.put-a-requires
put-a-requires c = omega (arith, room c.args.class c.args.out.now c.requires)

pub more-b-requires : goal.more-b-requires
more-b-requires c = omega (arith, room c.args.class c.args.out.now c.requires)

pub put_number_line-requires : goal.put_number_line-requires
put_number_line-requires c = part_room (number_line class_word c.args.class) c.more-b.new.out c.more-b.result (omega (arith, room c.args.class c.args.out.now c.requires))

pub returns : goal.returns
unfolding class_head
returns c =
    let out = c.args.out.now in
    let fits = room c.args.class out c.requires in
    let header = then-more plan_header newline out _ _ (simp length-append (omega arith)) c.put-a.ensures _ _ c.more-b.ensures in
    then-part (plan_header ++ newline) (number_line class_word c.args.class) out _ _ c.requires header _ _ c.put_number_line.ensures
