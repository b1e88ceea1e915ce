-- `plan_listing::put_number_line` meets its contract.
use mathlib.Core.List.{List, ◌++◌}
use Prim.Native.Nat.{ℕ, ◌+◌, ◌≤◌}
use lib.ListN.{length, length-append}
use native.Mathlib.Omega.{arith}
use Rattle.text.specs.Words.{tab, newline}
use Rattle.text.specs.Written.{decimal}
use Rattle.text.proofs.Written.{then-more}
use Rattle.plan_listing.specs.PlanText.{number_line}
use Rattle.plan_listing.proofs.put_number_line.Goals as goal

-- the parts of the line have room
room : (word : List ℕ) (n : ℕ) (out : List ℕ) → length (number_line word n) ≤ length out → length word + 1 + length (decimal n) + 1 ≤ length out
unfolding number_line
room word n out h = let k = simp length-append at h in omega arith

pub put-a-requires : goal.put-a-requires
put-a-requires c = omega (arith, room c.args.word.now c.args.n c.args.out.now c.requires)

pub more-b-requires : goal.more-b-requires
more-b-requires c = omega (arith, room c.args.word.now c.args.n c.args.out.now c.requires)

pub more_number-c-requires : goal.more_number-c-requires
more_number-c-requires c = omega (arith, room c.args.word.now c.args.n c.args.out.now c.requires)

pub more-requires : goal.more-requires
more-requires c = omega (arith, room c.args.word.now c.args.n c.args.out.now c.requires)

pub returns : goal.returns
unfolding number_line
returns c =
    let word = c.args.word.now in
    let out = c.args.out.now in
    let fits = room word c.args.n out c.requires in
    let at_tab = then-more word tab out _ _ (simp length-append (omega arith)) c.put-a.ensures _ _ c.more-b.ensures in
    let at_number = then-more (word ++ tab) (decimal c.args.n) out _ _ (simp length-append (omega arith)) at_tab _ _ c.more_number-c.ensures in
    then-more ((word ++ tab) ++ decimal c.args.n) newline out _ _ c.requires at_number _ _ c.more.ensures
