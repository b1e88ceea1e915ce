-- The tables of the relations call (01-scope.md, "Relations call"). "Row i is 4 bytes, lowest byte first; bit j says that i causes (stalls) j."
-- By C-15 "the relations call gets a second form with 8-byte rows". How many bytes a row has is a parameter, `size`.
use Rattle.std.specs.Prelude.{ℕ, zero, suc, ◌+◌, ◌*◌, ◌<◌, ◌≡◌, ◌⊎◌, List, [], ◌∷◌, get_or, take, drop}
use Rattle.rows.specs.Closure.{KeptFrom}

-- 4 bytes in the first form, 8 in the second.
abbrev pub RowSize : ℕ → Type 0
RowSize size = (size ≡ 4) ⊎ (size ≡ 8)

-- The number that some bytes are, lowest first.
abbrev pub from_bytes : List ℕ → ℕ
from_bytes [] = 0
from_bytes (b ∷ bytes) = b + 256 * from_bytes bytes

-- The first n rows of a table.
abbrev pub rows_of_bytes : ℕ → ℕ → List ℕ → List ℕ
rows_of_bytes size zero table = []
rows_of_bytes size (suc n) table = from_bytes (take size table) ∷ rows_of_bytes size n (drop size table)

-- Row i, by its place in the table.
abbrev pub row_at : ℕ → List ℕ → ℕ → ℕ
row_at size table i = from_bytes (take size (drop (size * i) table))

-- A table of 4-byte rows with each row widened by four zero bytes. Bytes after the last whole row stay as they are.
abbrev pub widened : List ℕ → List ℕ
widened [] = []
widened (b0 ∷ []) = b0 ∷ []
widened (b0 ∷ b1 ∷ []) = b0 ∷ b1 ∷ []
widened (b0 ∷ b1 ∷ b2 ∷ []) = b0 ∷ b1 ∷ b2 ∷ []
widened (b0 ∷ b1 ∷ b2 ∷ b3 ∷ table) = b0 ∷ b1 ∷ b2 ∷ b3 ∷ 0 ∷ 0 ∷ 0 ∷ 0 ∷ widened table

-- The first n rows are those of the table, and the others are as they were.
pub record Loaded (size n : ℕ) (table old new : List ℕ) : Type 0 where
  pub rows : (i : ℕ) → i < n → get_or new i 0 ≡ get_or (rows_of_bytes size n table) i 0
  pub kept : KeptFrom n old new
