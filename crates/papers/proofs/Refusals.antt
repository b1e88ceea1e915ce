-- Laws of refusals: a reason has a number above 0, and no two have the same; so a refusal is known by what is told of it.
use Prim.Native.Nat.{ℕ}
use mathlib.Core.Path.{◌≡◌, refl, sym, ap, ◌∙◌}
use mathlib.Core.List.{[], ◌∷◌}
use lib.ListN.{get_or}
use native.Mathlib.Omega.{arith}
use Rattle.std.specs.Prelude.{Result, Ok, Err}
use Rattle.papers.specs.declared.Refusal.{Refusal}
use Rattle.papers.specs.declared.refused.Reason.{Reason}
use Rattle.papers.specs.declared.refused.Reason.TheVariants.{TooBig, NoEnd, Header, Shape, Order, Name, Unknown, Twice, Full, StallStable, Conflict, NoMessage, NoEntry, Unmatched, Network, Room, Count, Stray}
use Rattle.papers.specs.declared.refused.Refused.{Refused}
use Rattle.papers.specs.refused.Refused.{number_of, told_refusal, refusal_of}

-- The reasons, each at its number.
reason_of : ℕ → Reason
reason_of n = get_or (Stray ∷ TooBig ∷ NoEnd ∷ Header ∷ Shape ∷ Order ∷ Name ∷ Unknown ∷ Twice ∷ Full ∷ StallStable ∷ Conflict ∷ NoMessage ∷ NoEntry ∷ Unmatched ∷ Network ∷ Room ∷ Count ∷ []) n Stray

reason-back : (w : Reason) → reason_of (number_of w) ≡ w
unfolding reason_of
reason-back TooBig = refl
reason-back NoEnd = refl
reason-back Header = refl
reason-back Shape = refl
reason-back Order = refl
reason-back Name = refl
reason-back Unknown = refl
reason-back Twice = refl
reason-back Full = refl
reason-back StallStable = refl
reason-back Conflict = refl
reason-back NoMessage = refl
reason-back NoEntry = refl
reason-back Unmatched = refl
reason-back Network = refl
reason-back Room = refl
reason-back Count = refl
reason-back Stray = refl

pub number-injective : (v w : Reason) → number_of v ≡ number_of w → v ≡ w
number-injective v w e = sym (reason-back v) ∙ ap reason_of e ∙ reason-back w

pub number-some : (w : Reason) → number_of w ≡ 0 → ⊥
number-some TooBig e = omega arith
number-some NoEnd e = omega arith
number-some Header e = omega arith
number-some Shape e = omega arith
number-some Order e = omega arith
number-some Name e = omega arith
number-some Unknown e = omega arith
number-some Twice e = omega arith
number-some Full e = omega arith
number-some StallStable e = omega arith
number-some Conflict e = omega arith
number-some NoMessage e = omega arith
number-some NoEntry e = omega arith
number-some Unmatched e = omega arith
number-some Network e = omega arith
number-some Room e = omega arith
number-some Count e = omega arith
number-some Stray e = omega arith

-- a refusal tells a number above 0
pub told-some : (r : Refused) → (told_refusal r).number ≡ 0 → ⊥
told-some r e = number-some r.why e

abbrev made : Reason → ℕ → ℕ → Refused
made why line field = record { why = why; line = line; field = record { 0 = field } }

-- two refusals of which the same is told are the same
pub told-injective : (r s : Refused) → told_refusal r ≡ told_refusal s → r ≡ s
told-injective r s e =
    same (number-injective r.why s.why (ap (λ (x : Refusal). x.number) e)) (ap (λ (x : Refusal). x.line) e) (ap (λ (x : Refusal). x.field) e)
  where
    same : {v w : Reason} {k l f g : ℕ} → v ≡ w → k ≡ l → f ≡ g → made v k f ≡ made w l g
    same p q t = cc

-- so are two results, where what they answer is the same
pub refusal-injective : {T : Type 0} (a b : Result T Refused) → refusal_of a ≡ refusal_of b → ((x y : T) → a ≡ Ok x → b ≡ Ok y → x ≡ y) → a ≡ b
refusal-injective (Ok x) (Ok y) e f = ap (λ z. Ok z) (f x y refl refl)
refusal-injective (Ok x) (Err s) e f = absurd (told-some s (sym (ap (λ (z : Refusal). z.number) e)))
refusal-injective (Err r) (Ok y) e f = absurd (told-some r (ap (λ (z : Refusal). z.number) e))
refusal-injective (Err r) (Err s) e f = ap (λ z. Err z) (told-injective r s e)
