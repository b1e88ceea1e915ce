-- Texts that are written: a number in decimal, and what a buffer holds after a text was written into it.
use Rattle.std.specs.Prelude.{ℕ, zero, suc, ◌+◌, ◌/◌, ◌%◌, ◌≡◌, cond, List, [], ◌∷◌, ◌++◌, length, take, drop, ltb}

-- The digits of n, highest first, where n has at most k of them.
unfoldable pub digits_in : ℕ → ℕ → List ℕ
digits_in zero n = []
digits_in (suc k) n = let rest = digits_in k (n / 10) ++ ((n % 10 + 48) ∷ []) in cond (ltb n 10) ((n + 48) ∷ []) rest

-- n in decimal: there are at most n + 1 digits.
unfoldable pub decimal : ℕ → List ℕ
decimal n = digits_in (suc n) n

-- The text, and after it what stood there.
abbrev pub wrote : List ℕ → List ℕ → List ℕ
wrote text old = text ++ drop (length text) old

-- The text was written at the front of old, which is then new; n is how many bytes that is.
pub record Wrote (text old new : List ℕ) (n : ℕ) : Type 0 where
  pub count : n ≡ length text
  pub bytes : new ≡ wrote text old

-- The text was written into old from the place at on, which is then new; n is the place after it.
pub record Pasted (text : List ℕ) (at : ℕ) (old new : List ℕ) (n : ℕ) : Type 0 where
  pub count : n ≡ at + length text
  pub bytes : new ≡ take at old ++ (text ++ drop (at + length text) old)
