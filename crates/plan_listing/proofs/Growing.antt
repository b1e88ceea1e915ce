-- Laws of a text that is written part by part, where each writer is lent the rest of the output.
use mathlib.Core.Path.{◌≡◌, sym, ap, ◌∙◌, subst}
use mathlib.Core.List.{List, ◌++◌}
use Prim.Native.Nat.{ℕ, ◌+◌, ◌-◌, ◌≤◌, ◌<◌}
use native.Mathlib.Omega.{arith}
use native.Mathlib.Numerals.{add-one}
use native.Mathlib.Nat.{le_refl}
use native.Mathlib.Decide.{le_ind}
use lib.ListN.{length, take, drop, length-append}
use Rattle.text.specs.Written.{Wrote}
use Rattle.text.proofs.Written.{pasted-part, more_room, then-more}

-- a text that fits has room for its front
pub front-room : (p q old : List ℕ) → length (p ++ q) ≤ length old → length p ≤ length old
front-room p q old h = omega (arith, length-append p q)

-- ---- one part after another: p stands at the front of what was old, and q is to follow

module _ (p q old new : List ℕ) (a : ℕ) (room : length (p ++ q) ≤ length old) (w : Wrote p old new a) where
  -- q was written to the rest
  pub then-part : (ys : List ℕ) (b : ℕ) → Wrote q (take (length new - a) (drop a new)) ys b
      → Wrote (p ++ q) old (take a new ++ (ys ++ drop (length new - a) (drop a new))) (a + b)
  then-part ys b v =
      then-more p q old new a room w (take a new ++ (ys ++ drop (length new - a) (drop a new))) (a + b)
      (pasted-part q new ys a b (more_room p q old new a room w) v)

-- the same where both together are r
module _ (p q r old new : List ℕ) (a : ℕ) (e : r ≡ p ++ q) (room : length r ≤ length old) (w : Wrote p old new a) where
  pub next-put : (ys : List ℕ) (b : ℕ) → Wrote q (take (length new - a) (drop a new)) ys b
      → Wrote r old (take a new ++ (ys ++ drop (length new - a) (drop a new))) (a + b)
  next-put ys b v =
      subst (λ (l : List ℕ). Wrote l old (take a new ++ (ys ++ drop (length new - a) (drop a new))) (a + b)) (sym e)
      (then-part p q old new a (omega (arith, ap length e)) w ys b v)

-- ---- line by line: f i is the text of the first i lines, and line i is the one that follows them

module _ (f line : ℕ → List ℕ) (n : ℕ) (more : (i : ℕ) → i < n → f (i + 1) ≡ f i ++ line i) where
  longer : (i : ℕ) → i < n → length (f (i + 1)) ≡ length (f i) + length (line i)
  longer i h = ap length (more i h) ∙ length-append (f i) (line i)

  -- the first lines are no longer than all
  pub grows : (i : ℕ) → i ≤ n → length (f i) ≤ length (f n)
  grows i h =
      le_ind (λ (m : ℕ). m ≤ n → length (f i) ≤ length (f m)) (λ g. le_refl (length (f i)))
      (λ m g e k. omega (arith, ap (λ (j : ℕ). length (f j)) (add-one m), longer m (omega arith), e (omega arith))) n h (le_refl n)
