-- Laws of what a call on texts tells, and of the answer in numbers.
use Prim.Native.Nat.{ℕ, ◌<◌, ◌≤◌}
use mathlib.Core.Path.{◌≡◌, refl, sym, ap}
use mathlib.Core.Bool.{Bool, true, false}
use mathlib.Core.List.{List}
use native.Mathlib.Omega.{arith}
use lib.ListN.{length}
use lib.Dec.{ltb}
use borrow.Author.Tests.{ltb-true, ltb-false}
use Rattle.std.specs.Prelude.{Result, Ok, Err}
use Rattle.papers.specs.declared.Refusal.{Refusal}
use Rattle.papers.specs.declared.refused.Refused.{Refused}
use Rattle.papers.proofs.Refusals.{told-some, told-injective}
use Rattle.answers.specs.declared.Answer.{Answer}
use Rattle.answers.specs.declared.unlisted.Paper.{Paper}
use Rattle.answers.specs.declared.unlisted.Paper.TheVariants.{Protocol, Mapping}
use Rattle.answers.specs.declared.unlisted.NoRoom.{NoRoom}
use Rattle.answers.specs.declared.unlisted.Unlisted.{Unlisted}
use Rattle.answers.specs.declared.unlisted.Unlisted.TheVariants.{Refused as Stopped, NoRoom as WithoutRoom}
use Rattle.answers.specs.Answers.{refused_at_lem, no_room_lem, finished, Refused as RefusedAt, Listed}
use Rattle.answers.specs.unlisted.Unlisted.{paper_of, answer_of, listed_of}

same-number : {a b : Answer} → a ≡ b → a.refusal.number ≡ b.refusal.number
same-number = ap (λ (x : Answer). x.refusal.number)

same-length : {a b : Answer} → a ≡ b → a.length ≡ b.length
same-length = ap (λ (x : Answer). x.length)

same-needed : {a b : Answer} → a ≡ b → a.needed ≡ b.needed
same-needed = ap (λ (x : Answer). x.needed)

-- where there is no listing, a refusal is told
pub unlisted-some : (u : Unlisted) → (answer_of (Err u)).refusal.number ≡ 0 → ⊥
unfolding refused_at_lem no_room_lem
unlisted-some (Stopped why paper) e = told-some why e
unlisted-some (WithoutRoom r) e = omega arith

-- ---- two of which the same is told are the same

paper-injective : (p q : Paper) → paper_of p ≡ paper_of q → p ≡ q
paper-injective Protocol Protocol e = refl
paper-injective Protocol Mapping e = absurd (omega arith)
paper-injective Mapping Protocol e = absurd (omega arith)
paper-injective Mapping Mapping e = refl

-- An answer with 16 tells a needed length above 0. So it is that of a listing, for a paper that is refused tells 0 there.
abbrev pub NeedsSome : Answer → Type 0
NeedsSome a = a.refusal.number ≡ 16 → 0 < a.needed

stopped-injective : (v w : Refused) (p q : Paper) → v ≡ w → p ≡ q → ◌≡◌ {A = Result ℕ Unlisted} (Err (Stopped v p)) (Err (Stopped w q))
stopped-injective v w p q e f = cc

without-injective : (r s : NoRoom) → r.needed ≡ s.needed → r ≡ s
without-injective r s e = λ i. record { needed = e i }

pub answer-injective : (a b : Result ℕ Unlisted) → NeedsSome (answer_of a) → answer_of a ≡ answer_of b → a ≡ b
unfolding refused_at_lem no_room_lem finished
answer-injective (Ok n) (Ok m) s e = ap (λ k. Ok k) (same-length e)
answer-injective (Ok n) (Err u) s e = absurd (unlisted-some u (sym (same-number e)))
answer-injective (Err u) (Ok m) s e = absurd (unlisted-some u (same-number e))
answer-injective (Err (Stopped v p)) (Err (Stopped w q)) s e =
    stopped-injective v w p q (told-injective v w (ap (λ (x : Answer). x.refusal) e)) (paper-injective p q (ap (λ (x : Answer). x.paper) e))
answer-injective (Err (Stopped v p)) (Err (WithoutRoom r)) s e = absurd (omega (arith, s (same-number e)))
answer-injective (Err (WithoutRoom r)) (Err (Stopped w q)) s e = absurd (omega (arith, s refl, same-needed e))
answer-injective (Err (WithoutRoom r)) (Err (WithoutRoom k)) s e = ap (λ z. Err (WithoutRoom z)) (without-injective r k (same-needed e))

-- of a listing alone
pub listed-injective : (a b : Result ℕ NoRoom) → listed_of a ≡ listed_of b → a ≡ b
unfolding no_room_lem finished
listed-injective (Ok n) (Ok m) e = ap (λ k. Ok k) (same-length e)
listed-injective (Ok n) (Err r) e = absurd (omega (arith, same-number e))
listed-injective (Err r) (Ok m) e = absurd (omega (arith, same-number e))
listed-injective (Err r) (Err k) e = ap (λ z. Err z) (without-injective r k (same-needed e))

-- ---- what a call on texts answers with 16 needs some

pub refused-needs : (why : Refusal) (paper : ℕ) (old new : List ℕ) (r : Answer) → why.number ≤ 15 → RefusedAt why paper old new r → NeedsSome r
unfolding refused_at_lem
refused-needs why paper old new r low w e = absurd (omega (arith, low, e, same-number w.answer))

pub listed-needs : (listing old new : List ℕ) (r : Answer) → Listed listing old new r → NeedsSome r
unfolding no_room_lem finished
listed-needs listing old new r l e = go (ltb (length old) (length listing)) refl
  where
    go : (b : Bool) → ltb (length old) (length listing) ≡ b → 0 < r.needed
    go true t =
        let short = ltb-true (length old) (length listing) t in
        omega (arith, short, same-needed (l.no_room short).answer)
    go false f = absurd (omega (arith, e, same-number (l.room (ltb-false (length old) (length listing) f)).answer))
