-- How many row joins it takes to close a table of rows (02-change-requests.md, C-23). "Both forms of the relations call return the number of row joins in closing causes
-- [..]: going through middle messages in order, a join is counted each time a row, as it stands at that moment, holds the middle one. It equals
-- the definition's count and is at most n times n for n messages." This is the definition. Nothing here knows a width; a message is a row's place, and a bit's.
use Rattle.std.specs.Prelude.{ℕ, ◌+◌, ◌*◌, ◌<◌, ◌≤◌, ◌/◌, ◌%◌, ◌^◌, ◌≡◌, Bool, cond, ◌↔◌, List, [], ◌∷◌, eqb, length, get_or, set}
use Rattle.std.specs.Int.Bits.{bit_or}
use Rattle.rules.specs.Lists.{◌∈◌, Distinct, up_to}
use Rattle.rows.specs.Closure.{Closure}

-- A row holds message k: its bit k is set.
abbrev pub holds : ℕ → ℕ → Bool
holds row k = eqb (row / 2 ^ k % 2) 1

-- A moment of the walk: the rows as they stand, and the joins counted so far.
pub record Moment : Type 0 where
  pub rows : List ℕ
  pub joins : ℕ

-- Row i takes in row k, and the join is counted.
abbrev pub joining : ℕ → ℕ → Moment → Moment
joining k i m = record { rows = set m.rows i (bit_or (get_or m.rows i 0) (get_or m.rows k 0)); joins = m.joins + 1 }

-- The turn of row i, with middle message k: "a join is counted each time a row, as it stands at that moment, holds the middle one".
abbrev pub turn : ℕ → ℕ → Moment → Moment
turn k i m = cond (holds (get_or m.rows i 0) k) (joining k i m) m

-- The turns of some rows, one after the other.
abbrev pub turns : ℕ → List ℕ → Moment → Moment
turns k [] m = m
turns k (i ∷ order) m = turns k order (turn k i m)

-- The numbers below n, in order.
abbrev pub in_order_lem : ℕ → List ℕ
in_order_lem n = up_to n (λ i. i)

-- "Going through middle messages": with each of them the first n rows have their turns. The row of the middle message is one of them.
abbrev pub middles : ℕ → List ℕ → Moment → Moment
middles n [] m = m
middles n (k ∷ order) m = middles n order (turns k (in_order_lem n) m)

-- The first n rows, closed: "going through middle messages in order", with no join counted at the beginning.
unfoldable pub closing : ℕ → List ℕ → Moment
closing n given = middles n (in_order_lem n) (record { rows = given; joins = 0 })

-- The number of row joins in closing the first n rows.
abbrev pub joins : ℕ → List ℕ → ℕ
joins n given = (closing n given).joins

-- ---- what is promised of this count

-- The walk closes the rows.
abbrev pub ClosingCloses : Type 0
ClosingCloses = (n : ℕ) (given : List ℕ) → n ≤ length given → Closure n given (closing n given).rows

-- "At most n times n for n messages."
abbrev pub FewJoins : Type 0
FewJoins = (n : ℕ) (given : List ℕ) → n ≤ length given → joins n given ≤ n * n

-- The request fixes no order of the rows with one middle message, and none is needed: any list of the numbers below n, each of them once,
-- leaves the same rows and the same count.
abbrev pub RowsInAnyOrder : Type 0
RowsInAnyOrder = (n k : ℕ) (order : List ℕ) (m : Moment) → Distinct order → ((i : ℕ) → (i ∈ order) ↔ (i < n)) → turns k order m ≡ turns k (in_order_lem n) m

-- ---- counted by hand

-- 0 causes 1 and 1 causes 2. With 1 in the middle row 0 takes in row 1, so two rows hold 2 when it is the middle one. Of the rows as they were
-- at the beginning only one does.
abbrev pub ChainJoins : Type 0
ChainJoins = joins 3 (2 ∷ 4 ∷ 0 ∷ []) ≡ 3

-- 0 causes 2 and 2 causes 1. Row 0 holds 1 only after 1 was the middle one.
abbrev pub LateJoins : Type 0
LateJoins = joins 3 (4 ∷ 0 ∷ 2 ∷ []) ≡ 2

-- A message that causes itself: its own row holds it.
abbrev pub OwnJoins : Type 0
OwnJoins = joins 1 (1 ∷ []) ≡ 1

-- Each of three messages causes each: no table of three rows has more.
abbrev pub MostJoins : Type 0
MostJoins = joins 3 (7 ∷ 7 ∷ 7 ∷ []) ≡ 9
