-- The steps of a closed walk by their places.
use mathlib.Core.Path.{◌≡◌, refl, sym, ap, ap₂, ◌∙◌}
use mathlib.Core.Bool.{Bool, true, false, cond, decide}
use mathlib.Core.Logic.{◌↔◌}
use mathlib.Core.List.{List, [], ◌∷◌, ◌++◌}
use Prim.Native.Nat.{ℕ, zero, suc, ◌+◌, ◌≤◌, ◌<◌}
use native.Mathlib.Omega.{arith}
use native.Mathlib.Numerals.{add-one}
use lib.ListN.{length, get_or, length-append, get_or-append}
use lib.Seq.{get_or_at}
use lib.Dec.{ltb}
use borrow.Author.Tests.{ltb-true, ltb-false, lt-ltb, le-ltb}
use Rattle.rules.specs.Rules.{MessageNo}
use Rattle.rules.specs.Plan.{Word, waits, queues}
use Rattle.rows.specs.Rows.{Bit}
use Rattle.rows.proofs.Bits.{bit?}
use Rattle.judge_listing.specs.step_lines.StepLine.{word_of}
use Rattle.judge_listing.specs.JudgeText.{ShownStep, step_of, steps_from, steps_around, word_in}
use Rattle.judge_listing.specs.Places.{next_place_lem, step_at_lem}

-- ---- the place after one

pub next-on : (n i : ℕ) → i + 1 < n → i + 1 ≡ next_place_lem n i
unfolding next_place_lem
next-on n i h = rw (lt-ltb (i + 1) n h)

pub next-back : (n i : ℕ) → n ≤ i + 1 → 0 ≡ next_place_lem n i
unfolding next_place_lem
next-back n i h = rw (le-ltb (i + 1) n h)

pub next-below : (n i : ℕ) → 0 < n → next_place_lem n i < n
unfolding next_place_lem
next-below n i h = go (ltb (i + 1) n) refl
  where
    go : (t : Bool) → ltb (i + 1) n ≡ t → cond t (i + 1) 0 < n
    go true e = ltb-true (i + 1) n e
    go false e = h

-- ---- the steps

module _ (w : MessageNo → MessageNo → Word) where
  length_from : (a : MessageNo) (l : List MessageNo) → length (steps_from w a l) ≡ length l
  unfolding steps_from
  length_from a [] = refl
  length_from a (b ∷ l) = ap suc (length_from b l)

  from_at : (d : ShownStep) (a : MessageNo) (l : List MessageNo) (i : ℕ) → i < length l
      → get_or (steps_from w a l) i d ≡ step_of w (get_or (a ∷ l) i 0) (get_or l i 0)
  unfolding steps_from
  from_at d a [] i h = absurd (omega arith)
  from_at d a (b ∷ l) zero h = refl
  from_at d a (b ∷ l) (suc i) h = from_at d b l i (omega arith)

  -- as many steps as messages
  pub steps-length : (l : List MessageNo) → length (steps_around w l) ≡ length l
  unfolding steps_around
  steps-length [] = refl
  steps-length (a ∷ l) = length_from a (l ++ (a ∷ [])) ∙ length-append l (a ∷ []) ∙ add-one (length l)

  -- the end of the step at i is the message at the next place
  next-at : (a : MessageNo) (l : List MessageNo) (i : ℕ) → i < length (a ∷ l)
      → get_or (l ++ (a ∷ [])) i 0 ≡ get_or (a ∷ l) (next_place_lem (length (a ∷ l)) i) 0
  next-at a l i h = go (ltb (i + 1) (length (a ∷ l))) refl
    where
      go : (t : Bool) → ltb (i + 1) (length (a ∷ l)) ≡ t → get_or (l ++ (a ∷ [])) i 0 ≡ get_or (a ∷ l) (next_place_lem (length (a ∷ l)) i) 0
      go true e =
          let q = ltb-true (i + 1) (length (a ∷ l)) e in
          get_or-append l (a ∷ []) 0 i (omega arith)
          ∙ ap (λ (k : ℕ). get_or (a ∷ l) k 0) (sym (add-one i) ∙ next-on (length (a ∷ l)) i q)
      go false e =
          let q = ltb-false (i + 1) (length (a ∷ l)) e in
          get_or_at l a [] 0 i (omega arith) ∙ ap (λ (k : ℕ). get_or (a ∷ l) k 0) (next-back (length (a ∷ l)) i q)

  pub steps-at : (d : ShownStep) (l : List MessageNo) (i : ℕ) → i < length l → get_or (steps_around w l) i d ≡ step_at_lem w l i
  unfolding steps_around step_at_lem
  steps-at d [] i h = absurd (omega arith)
  steps-at d (a ∷ l) i h =
      from_at d a (l ++ (a ∷ [])) i (omega (arith, length-append l (a ∷ [])))
      ∙ ap₂ (step_of w) (get_or-append (a ∷ l) (a ∷ []) 0 i h) (next-at a l i h)

-- ---- the word of a step

-- what tells that a bit is set is the decision of it
bit-told : (b : Bool) (row k : ℕ) → ((b ≡ true) ↔ Bit row k) → b ≡ decide (bit? row k)
unfolding decide
bit-told b row k f = go b (bit? row k) f
  where
    go : (b : Bool) (d : Dec (Bit row k)) → ((b ≡ true) ↔ Bit row k) → b ≡ decide d
    go true (yes h) f = refl
    go true (no g) f = absurd (g (f.0 refl))
    go false (yes h) f = f.1 h
    go false (no g) f = refl

-- the word by the bit that was read
pub word-told : (b : Bool) (rows : List ℕ) (m k f t : ℕ) → f ≡ m → t ≡ k → ((b ≡ true) ↔ Bit (get_or rows f 0) t) → word_of b ≡ word_in rows m k
unfolding word_in
word-told b rows m k f t p q h = ap word_of (bit-told b (get_or rows f 0) t h) ∙ ap₂ (word_in rows) p q

-- what holds of both words, each by its bit, holds of the step's word
pub word-by-bit : (P : Word → Type 0) (rows : List ℕ) (m k : MessageNo) → (Bit (get_or rows m 0) k → P waits) → (¬ Bit (get_or rows m 0) k → P queues) → P (word_in rows m k)
unfolding word_in decide
word-by-bit P rows m k set clear = go (bit? (get_or rows m 0) k)
  where
    go : (d : Dec (Bit (get_or rows m 0) k)) → P (word_of (decide d))
    go (yes h) = set h
    go (no g) = clear g
