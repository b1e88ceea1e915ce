-- Texts as lists of bytes: parts of them, where a byte stands, and what lies between the bytes that part them.
use Rattle.std.specs.Prelude.{ℕ, suc, ◌+◌, ◌-◌, Bool, true, false, ◌&&◌, cond, take, drop, eqb}
use mathlib.Core.List.{List, [], ◌∷◌, drop_last}

-- The bytes from a place up to another.
abbrev pub part : List ℕ → ℕ → ℕ → List ℕ
part text a e = take (e - a) (drop a text)

-- Whether two texts are the same.
unfoldable pub is_same_text : List ℕ → List ℕ → Bool
is_same_text [] [] = true
is_same_text [] (y ∷ m) = false
is_same_text (x ∷ l) [] = false
is_same_text (x ∷ l) (y ∷ m) = eqb x y && is_same_text l m

module _ {A : Type 0} where
  -- The place of the first element that passes, and the length where none does.
  unfoldable pub first_index : (A → Bool) → List A → ℕ
  first_index p [] = 0
  first_index p (x ∷ l) = cond (p x) 0 (suc (first_index p l))

-- Whether a byte is b.
abbrev pub is : ℕ → ℕ → Bool
is b x = eqb x b

-- The first place of b from one place up to another, and the other where b is not there.
unfoldable pub place : ℕ → List ℕ → ℕ → ℕ → ℕ
place b text a e = a + first_index (is b) (part text a e)

-- How many bytes are b.
unfoldable pub how_many : ℕ → List ℕ → ℕ
how_many b [] = 0
how_many b (x ∷ l) = cond (eqb x b) (suc (how_many b l)) (how_many b l)

-- A byte put in front of the first part.
abbrev pub onto : ℕ → List (List ℕ) → List (List ℕ)
onto x [] = (x ∷ []) ∷ []
onto x (p ∷ ps) = (x ∷ p) ∷ ps

-- The parts between the bytes b, one more than there are such bytes: of the empty text, one empty part.
unfoldable pub split : ℕ → List ℕ → List (List ℕ)
split b [] = [] ∷ []
split b (x ∷ l) = cond (eqb x b) ([] ∷ split b l) (onto x (split b l))

-- The lines of a text that is empty or ends with byte 10: each line ends there, so what follows the last one is no line.
unfoldable pub lines : List ℕ → List (List ℕ)
lines text = drop_last (split 10 text)
