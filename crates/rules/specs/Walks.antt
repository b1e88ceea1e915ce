-- Steps of a relation, one after the other: chains and closed walks.
use Rattle.std.specs.Prelude.{ℕ, zero, suc, ◌⊎◌, List, [], ◌∷◌, ◌++◌, ◌≡◌}

-- A relation between numbers: `R a b` is the fact that a is in the relation R to b.
abbrev pub Rel : Type 1
Rel = ℕ → ℕ → Type 0

-- `Chain R a l`: from a the relation R leads to the first number of l, from there to the second, and so on to the last.
-- A chain has `length l` steps, and one number more than steps: `Chain R a []` is the chain of the one number a.
abbrev pub Chain : Rel → ℕ → List ℕ → Type 0
Chain R a [] = Unit {0}
Chain R a (b ∷ l) = R a b × Chain R b l

-- From a to b by one or more steps of R: by way of the numbers of some list l, which may be empty.
abbrev pub Plus : Rel → Rel
Plus R a b = (l : List ℕ) × Chain R a (l ++ b ∷ [])

-- Some step of the chain from a through l is a step of R.
abbrev pub Somewhere : Rel → ℕ → List ℕ → Type 0
Somewhere R a [] = ⊥
Somewhere R a (b ∷ l) = R a b ⊎ Somewhere R b l

-- The first step of the chain from a through l is a step of R.
abbrev pub Begins : Rel → ℕ → List ℕ → Type 0
Begins R a [] = ⊥
Begins R a (b ∷ l) = R a b

-- From y to x by exactly k steps of R.
abbrev pub Exactly : Rel → ℕ → ℕ → ℕ → Type 0
Exactly R zero y x = y ≡ x
Exactly R (suc k) y x = (z : ℕ) × R y z × Exactly R k z x
