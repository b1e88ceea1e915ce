-- The refusals 1 to 3, which are about the text as a whole.
use Rattle.std.specs.Prelude.{ℕ, ◌+◌, ◌-◌, ◌≡◌, Bool, false, not, List, [], ◌∷◌, length, get_or, eqb, ltb}
use Rattle.text.specs.Parts.{is_same_text, how_many, lines}
use Rattle.papers.specs.declared.Refusal.{Refusal}
use Rattle.papers.specs.Checks.{Check, check, first_of}

-- 1 TOO_BIG: "text over 49,152 bytes; line 0".
abbrev pub is_too_big : List ℕ → Bool
is_too_big text = ltb 49152 (length text)

-- 2 NO_END: "text not empty and its last byte is not 10; the last line's number". (Of the empty text the byte looked at is 10.)
abbrev pub has_no_end : List ℕ → Bool
has_no_end text = not (eqb (get_or text (length text - 1) 10) 10)

-- The number of the last line of a text whose last line does not end.
abbrev pub last_line : List ℕ → ℕ
last_line text = how_many 10 text + 1

-- The first of the lines is this one.
abbrev pub begins_with : List ℕ → List (List ℕ) → Bool
begins_with header [] = false
begins_with header (l ∷ ls) = is_same_text l header

-- 3 HEADER: "first line missing or different; line 1".
abbrev pub wrong_header : List ℕ → List ℕ → Bool
wrong_header header text = not (begins_with header (lines text))

abbrev pub opening_checks : List ℕ → List ℕ → List Check
opening_checks header text =
    check 1 0 (is_too_big text)
    ∷ check 2 (last_line text) (has_no_end text)
    ∷ check 3 1 (wrong_header header text)
    ∷ []

-- How a text with this header is refused before its lines are read.
unfoldable pub opening_of : List ℕ → List ℕ → Refusal
opening_of header text = first_of (opening_checks header text)

-- None of the three rows is given.
abbrev pub Opens : List ℕ → List ℕ → Type 0
Opens header text = (opening_of header text).number ≡ 0
