-- A line is the list of its fields.
use Rattle.std.specs.Prelude.{ℕ, Bool, List, [], get_or}
use Rattle.text.specs.Parts.{is_same_text}

abbrev pub Line : Type 0
Line = List (List ℕ)

-- Field i, counted from 0; empty where the line has fewer.
abbrev pub field : Line → ℕ → List ℕ
field f i = get_or f i []

-- Field i is this word.
abbrev pub says : Line → ℕ → List ℕ → Bool
says f i word = is_same_text (field f i) word
