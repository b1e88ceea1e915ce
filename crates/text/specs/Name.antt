-- Names: which bytes make one, and how it is kept.
use Rattle.std.specs.Prelude.{ℕ, ◌-◌, Bool, true, ◌&&◌, ◌||◌, List, [], ◌∷◌, ◌++◌, length, take, replicate, eqb, leb}
use Rattle.text.specs.declared.Name.{Name}

-- A byte from a to b.
abbrev pub among : ℕ → ℕ → ℕ → Bool
among a b x = leb a x && leb x b

-- A letter, a digit, or one of `-` `+` `_` `.`.
unfoldable pub is_name_byte : ℕ → Bool
is_name_byte x = among 97 122 x || (among 65 90 x || (among 48 57 x || (eqb x 45 || (eqb x 43 || (eqb x 95 || eqb x 46)))))

-- Every byte passes.
unfoldable pub every : (ℕ → Bool) → List ℕ → Bool
every p [] = true
every p (x ∷ l) = p x && every p l

-- The name rule: 1 to 24 bytes out of letters, digits, `-`, `+`, `_`, `.`.
unfoldable pub name_rule : List ℕ → Bool
name_rule l = among 1 24 (length l) && every is_name_byte l

-- The bytes of a name.
abbrev pub name_text : Name → List ℕ
name_text n = take n.length n.bytes

-- The name with these bytes, of which there are at most 24.
unfoldable pub name_of_lem : List ℕ → Name
name_of_lem l = record { bytes = l ++ replicate (24 - length l) 0; length = length l }
