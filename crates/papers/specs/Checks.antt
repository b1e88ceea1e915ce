-- Checks as data, in the paper's order: what is refused is the first check that holds.
use Rattle.std.specs.Prelude.{ℕ, ◌<◌, ◌≡◌, Bool, true, false, cond, List, [], ◌∷◌, length, get_or}
use Rattle.papers.specs.declared.Refusal.{Refusal}

-- A row of the refusal table: its number, the line and the field that it tells, and whether it is given here.
pub record Check : Type 0 where
  pub number : ℕ
  pub line : ℕ
  pub field : ℕ
  pub given : Bool

-- "Counted from 1; 0 where the whole line or text is meant": a row that tells a field, and one that tells none.
abbrev pub field_check : ℕ → ℕ → ℕ → Bool → Check
field_check number line field given = record { number = number; line = line; field = field; given = given }

abbrev pub check : ℕ → ℕ → Bool → Check
check number line given = field_check number line 0 given

abbrev pub field_refusal : ℕ → ℕ → ℕ → Refusal
field_refusal number line field = record { number = number; line = line; field = field }

abbrev pub refusal : ℕ → ℕ → Refusal
refusal number line = field_refusal number line 0

-- Nothing is refused.
abbrev pub none : Refusal
none = refusal 0 0

-- The first check that is given.
unfoldable pub first_of : List Check → Refusal
first_of [] = none
first_of (c ∷ cs) = let rest = first_of cs in cond c.given (field_refusal c.number c.line c.field) rest

-- ---- under its row

-- What stands past the end of a list of checks.
abbrev pub no_check : Check
no_check = check 0 0 false

-- The check at a place.
abbrev pub row : List Check → ℕ → Check
row cs i = get_or cs i no_check

-- What a check says where it is given.
abbrev pub told : Check → Refusal
told c = field_refusal c.number c.line c.field

-- The check at a place is given, and none before it.
pub record FirstGiven (cs : List Check) (i : ℕ) : Type 0 where
  pub below : i < length cs
  pub given : (row cs i).given ≡ true
  pub before : (j : ℕ) → j < i → (row cs j).given ≡ false

-- The refusal is that of the first given check.
pub record ToldBy (cs : List Check) (r : Refusal) : Type 0 where
  pub place : ℕ
  pub first : FirstGiven cs place
  pub is : r ≡ told (row cs place)

-- No check is given.
pub record NoneGiven (cs : List Check) : Type 0 where
  pub passed : (j : ℕ) → j < length cs → (row cs j).given ≡ false
