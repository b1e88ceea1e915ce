-- Lists: what is in them, their dictionary order, and the list of a function's values.
use Rattle.std.specs.Prelude.{ℕ, zero, suc, ◌<◌, ◌≡◌, ◌⊎◌, List, [], ◌∷◌}

-- x is in the list.
infix 4 ◌∈◌
abbrev pub ◌∈◌ : ℕ → List ℕ → Type 0
x ∈ [] = ⊥
x ∈ (y ∷ l) = (x ≡ y) ⊎ (x ∈ l)

-- No two places of the list hold the same number.
abbrev pub Distinct : List ℕ → Type 0
Distinct [] = Unit {0}
Distinct (x ∷ l) = ¬ (x ∈ l) × Distinct l

-- Dictionary order: l comes before m, or is m.
infix 4 ◌≼◌
abbrev pub ◌≼◌ : List ℕ → List ℕ → Type 0
[] ≼ m = Unit {0}
(a ∷ l) ≼ [] = ⊥
(a ∷ l) ≼ (b ∷ m) = (a < b) ⊎ ((a ≡ b) × (l ≼ m))

module _ {A : Type 0} where
  -- Some element of the list has P.
  abbrev pub Some : (A → Type 0) → List A → Type 0
  Some P [] = ⊥
  Some P (x ∷ xs) = P x ⊎ Some P xs

-- f 0, f 1, up to f (n - 1)
abbrev pub up_to {ℓ} : {A : Type ℓ} → ℕ → (ℕ → A) → List A
up_to zero f = []
up_to (suc n) f = f 0 ∷ up_to n (λ k. f (suc k))
