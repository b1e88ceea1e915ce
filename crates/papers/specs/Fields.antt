-- Which field a refusal tells (02-change-requests.md, C-14): "The name lookup and field reading should tell the field, and every refusal should
-- return it, counted from 1; 0 where the whole line or text is meant."
use Rattle.std.specs.Prelude.{ℕ, ◌<◌, ◌≡◌, Bool, true, false, cond, List, [], ◌∷◌, length, get_or}

-- A field that is looked at: its number, counted from 1, and whether it is bad.
pub record Looked : Type 0 where
  pub field : ℕ
  pub bad : Bool

abbrev pub looked : ℕ → Bool → Looked
looked field bad = record { field = field; bad = bad }

-- "With several bad fields of the same refusal, the first is told"; 0 where none is bad.
unfoldable pub first_bad_field : List Looked → ℕ
first_bad_field [] = 0
first_bad_field (l ∷ ls) = let rest = first_bad_field ls in cond l.bad l.field rest

-- ---- what it tells

-- What is looked at behind the last field: none.
abbrev pub no_field : Looked
no_field = looked 0 false

abbrev pub looked_at : List Looked → ℕ → Looked
looked_at ls i = get_or ls i no_field

-- The field told is the bad one at some place, and each field that is looked at before it is good.
pub record BadAt (ls : List Looked) (k : ℕ) : Type 0 where
  pub place : ℕ
  pub below : place < length ls
  pub is : k ≡ (looked_at ls place).field
  pub bad : (looked_at ls place).bad ≡ true
  pub before : (j : ℕ) → j < place → (looked_at ls j).bad ≡ false

-- No field is bad.
abbrev pub AllGood : List Looked → Type 0
AllGood ls = (j : ℕ) → j < length ls → (looked_at ls j).bad ≡ false

-- Every field that is looked at has a number, counted from 1.
abbrev pub FromOne : List Looked → Type 0
FromOne ls = (j : ℕ) → j < length ls → 0 < (looked_at ls j).field
