-- What it means that a contract determines what a function gives back.
use Rattle.std.specs.Prelude.{ℕ, ◌≡◌, List}

-- Two results that the contract allows are equal.
abbrev pub Determines : {A : Type 0} → (A → Type 0) → Type 0
Determines {A} Allowed = (r s : A) → Allowed r → Allowed s → r ≡ s

-- Of a function that is lent bytes: two results that the contract allows are equal, and so is what it leaves in every lent byte.
abbrev pub DeterminesLent : {A : Type 0} → (List ℕ → A → Type 0) → Type 0
DeterminesLent {A} Allowed = (new₁ new₂ : List ℕ) (r s : A) → Allowed new₁ r → Allowed new₂ s → (r ≡ s) × (new₁ ≡ new₂)
