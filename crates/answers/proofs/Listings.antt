-- Laws of a listing that was to be written: how each of the two ends is reached, and what it tells.
use Prim.Native.Nat.{ℕ, ◌<◌, ◌≤◌}
use mathlib.Core.Path.{◌≡◌, ap, ◌∙◌, refl}
use mathlib.Core.List.{List}
use lib.ListN.{length}
use native.Mathlib.Omega.{arith}
use Rattle.text.specs.Written.{Wrote}
use Rattle.papers.specs.declared.Refusal.{Refusal}
use Rattle.answers.specs.declared.Answer.{Answer}
use Rattle.answers.specs.Answers.{refused_at_lem, no_room_lem, finished, Refused, Listed}

-- there is no room, and nothing was written
pub listing-refused : (listing old : List ℕ) (needed : ℕ) (r : Answer) → needed ≡ length listing → length old < needed → r ≡ no_room_lem needed
    → Listed listing old old r
listing-refused listing old needed r e h q =
    record { no_room = λ k. record { answer = q ∙ ap no_room_lem e; bytes = refl }; room = λ k. absurd (omega arith) }

-- there is room, and the listing was written
pub listing-written : (listing old new : List ℕ) (n : ℕ) (r : Answer) → length listing ≤ length old → Wrote listing old new n → r ≡ finished n
    → Listed listing old new r
listing-written listing old new n r h w q =
    record { no_room = λ k. absurd (omega arith); room = λ k. record { answer = q ∙ ap finished w.count; bytes = w.bytes } }

-- there was room, and the listing was written
pub listed-wrote : (listing old new : List ℕ) (r : Answer) → length listing ≤ length old → Listed listing old new r → (r.refusal.number ≡ 0) × Wrote listing old new r.length
unfolding finished
listed-wrote listing old new r h l =
    let w = l.room h in
    (ap (λ (a : Answer). a.refusal.number) w.answer, record { count = ap (λ (a : Answer). a.length) w.answer; bytes = w.bytes })

-- a refusal, and what is written for it
pub refused-parts : (why : Refusal) (paper : ℕ) (old new : List ℕ) (r : Answer) → Refused why paper old new r → (r.refusal ≡ why) × (r.paper ≡ paper)
unfolding refused_at_lem
refused-parts why paper old new r w = (ap (λ (a : Answer). a.refusal) w.answer, ap (λ (a : Answer). a.paper) w.answer)
