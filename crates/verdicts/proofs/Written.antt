-- What stands in an array that was turned out of bytes: the first numbers, and what is past them.
use Prim.Native.Nat.{ℕ, zero, suc, ◌-◌, ◌<◌, ◌≤◌}
use mathlib.Core.Path.{◌≡◌, refl, sym, ap, subst, ◌∙◌}
use mathlib.Core.List.{List, [], ◌∷◌, map}
use native.Mathlib.Omega.{arith}
use lib.ListN.{length, get_or, take, drop, replicate}
use lib.Seq.{length-take-le}
use Rattle.rules.specs.declared.Message.{Message}
use Rattle.rules.proofs.Cycle.{All<, closed-small}
use Rattle.rows.specs.Rows.{Rows}
use Rattle.walks.specs.Walks.{CycleWritten}
use Rattle.rules.specs.Plan.{Closed}
use Rattle.plan_listing.specs.PlanText.{first_messages, first_networks, MessagesBelow}
use Rattle.rules.specs.Numbers.{as_message, as_network}
use Rattle.verdicts.specs.Verdicts.{StoredCycle}

-- ---- the first numbers

messages-first : (n : ℕ) (bytes : List ℕ) → first_messages n (map as_message bytes) ≡ take n bytes
unfolding first_messages
messages-first zero bytes = refl
messages-first (suc n) [] = refl
messages-first (suc n) (x ∷ bytes) = ap (λ (l : List ℕ). x ∷ l) (messages-first n bytes)

pub networks-first : (n : ℕ) (bytes : List ℕ) → first_networks n (map as_network bytes) ≡ take n bytes
unfolding first_networks
networks-first zero bytes = refl
networks-first (suc n) [] = refl
networks-first (suc n) (x ∷ bytes) = ap (λ (l : List ℕ). x ∷ l) (networks-first n bytes)

-- ---- what is past them

module _ {A : Type 0} (f : ℕ → A) where
  drop-map : (n : ℕ) (l : List ℕ) → drop n (map f l) ≡ map f (drop n l)
  drop-map zero l = refl
  drop-map (suc n) [] = refl
  drop-map (suc n) (x ∷ l) = drop-map n l

  zeros-past : (n w : ℕ) → map f (drop n (replicate w 0)) ≡ replicate (w - n) (f 0)
  zeros-past zero zero = refl
  zeros-past zero (suc w) = let e : suc w - 0 ≡ suc w = omega arith in rw e (ap (λ (l : List A). f 0 ∷ l) (zeros-all w))
    where
      zeros-all : (w : ℕ) → map f (replicate w 0) ≡ replicate w (f 0)
      zeros-all zero = refl
      zeros-all (suc w) = ap (λ (l : List A). f 0 ∷ l) (zeros-all w)
  zeros-past (suc n) zero = let e : 0 - suc n ≡ 0 = omega arith in rw e refl
  zeros-past (suc n) (suc w) = let e : suc w - suc n ≡ w - n = omega arith in rw e (zeros-past n w)

  -- where the bytes are as they were when they were cleared
  pub past : (n w : ℕ) (bytes : List ℕ) → drop n bytes ≡ drop n (replicate w 0) → drop n (map f bytes) ≡ replicate (w - n) (f 0)
  past n w bytes e = drop-map n bytes ∙ ap (map f) e ∙ zeros-past n w

-- ---- a cycle that was written over zeros

all-at : (n : ℕ) (l : List ℕ) → All< n l → (i : ℕ) → i < length l → get_or l i 0 < n
all-at n [] a i h = absurd (omega arith)
all-at n (x ∷ l) a zero h = a.0
all-at n (x ∷ l) a (suc i) h = all-at n l a.1 i (omega arith)

module _ (n : ℕ) (few : n ≤ 64) (w s new : List ℕ) (len : ℕ) (long : length new ≡ 64) (c : CycleWritten w s n (replicate 64 0) new len) (cycle : List Message) (is : cycle ≡ map as_message new) where
  pub cycle-first : first_messages len cycle ≡ take len new
  cycle-first = ap (first_messages len) is ∙ messages-first len new

  take_long : length (take len new) ≡ len
  take_long = length-take-le len new (omega (arith, c.fits, long))

  messages-below : MessagesBelow len (first_messages len cycle)
  messages-below i h =
      let a = closed-small n (Rows n w) (Rows n s) (λ a b r. (r.i_below, r.j_below)) (take len new) c.shown.closed in
      let b = all-at n (take len new) a i (omega (arith, take_long)) in
      subst (λ (l : List ℕ). get_or l i 0 < 64) (sym cycle-first) (omega (arith, b))

  -- a closed walk has a message
  pub cycle-some : 0 < len
  cycle-some = go len c.shown.closed
    where
      go : (k : ℕ) → Closed (Rows n w) (Rows n s) (take k new) → 0 < k
      go zero x = absurd x
      go (suc k) x = omega arith

  pub cycle-stored : StoredCycle len cycle
  cycle-stored = record { few = omega (arith, c.fits); long = ap length cycle-first ∙ take_long; messages = messages-below; past = ap (drop len) is ∙ past as_message len 64 new c.rest }
