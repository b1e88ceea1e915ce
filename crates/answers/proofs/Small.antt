-- The numbers of an answer are small where those it is made of are.
use Prim.Native.Nat.{ℕ, ◌<◌, ◌≤◌}
use mathlib.Core.Path.{◌≡◌, refl, sym, subst}
use mathlib.Core.Bool.{Bool, true, false, cond}
use mathlib.Core.List.{List}
use native.Mathlib.Omega.{arith}
use lib.ListN.{length}
use lib.Dec.{eqb, ltb}
use borrow.Author.Tests.{ltb-true, ltb-false}
use Rattle.papers.specs.declared.Refusal.{Refusal}
use Rattle.answers.specs.declared.Answer.{Answer}
use Rattle.answers.specs.Answers.{refused_at_lem, no_room_lem, finished, Listed, Small, shown_length_lem}

pub small-refused : (why : Refusal) (paper : ℕ) (r : Answer) → why.number ≤ 15 → paper < 256 → why.line ≤ 49153 → why.field < 256 → r ≡ refused_at_lem why paper → Small r
unfolding refused_at_lem shown_length_lem
small-refused why paper r h k g f e = subst Small (sym e) (record { number = omega (arith, h); paper = k; line = omega (arith, g); field = f; length = go (eqb why.number 16) })
  where
    go : (b : Bool) → cond b 0 0 < 65536
    go true = omega arith
    go false = omega arith

pub small-listed : (listing old new : List ℕ) (r : Answer) → length listing < 65536 → Listed listing old new r → Small r
unfolding no_room_lem finished shown_length_lem
small-listed listing old new r h l = go (ltb (length old) (length listing)) refl
  where
    go : (b : Bool) → ltb (length old) (length listing) ≡ b → Small r
    go true e =
        subst Small (sym (l.no_room (ltb-true (length old) (length listing) e)).answer)
        (record { number = omega arith; paper = omega arith; line = omega arith; field = omega arith; length = h })
    go false e =
        subst Small (sym (l.room (ltb-false (length old) (length listing) e)).answer)
        (record { number = omega arith; paper = omega arith; line = omega arith; field = omega arith; length = h })
