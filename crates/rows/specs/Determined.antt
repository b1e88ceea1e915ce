-- What it means that a contract determines a row or an array of rows. The values of a word of w bits are those below 2 ^ w.
use Rattle.std.specs.Prelude.{ℕ, ◌<◌, ◌^◌, ◌≡◌, List, length, get_or}

-- Two rows of w bits that the contract allows are equal.
abbrev pub DeterminesRow : ℕ → (ℕ → Type 0) → Type 0
DeterminesRow w Allowed = (r s : ℕ) → r < 2 ^ w → s < 2 ^ w → Allowed r → Allowed s → r ≡ s

-- Each row is one of w bits.
abbrev pub Wide : ℕ → List ℕ → Type 0
Wide w rows = (i : ℕ) → get_or rows i 0 < 2 ^ w

-- Two lists of such rows that the contract allows are equal.
abbrev pub DeterminesRows : ℕ → (List ℕ → Type 0) → Type 0
DeterminesRows w Allowed = (r s : List ℕ) → Wide w r → Wide w s → Allowed r → Allowed s → r ≡ s

-- The values of an array of n words of w bits.
pub record Words (w n : ℕ) (rows : List ℕ) : Type 0 where
  pub long : length rows ≡ n
  pub small : Wide w rows

-- Two such arrays that the contract allows are equal.
abbrev pub DeterminesWords : ℕ → ℕ → (List ℕ → Type 0) → Type 0
DeterminesWords w n Allowed = (r s : List ℕ) → Words w n r → Words w n s → Allowed r → Allowed s → r ≡ s
