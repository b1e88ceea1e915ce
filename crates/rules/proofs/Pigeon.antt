-- Lists of different numbers: one whose numbers are all in another list is no longer than that list.
use Prim.Native.Nat.{ℕ, zero, suc, ◌<◌, ◌≤◌, zero-le}
use mathlib.Core.Path.{◌≡◌, refl, sym, subst, ap, ◌∙◌}
use mathlib.Core.Logic.{◌⊎◌, inl, inr, ⊎_elim}
use mathlib.Core.List.{List, [], ◌∷◌, map}
use native.Mathlib.Nat.{lt_irrefl}
use native.Mathlib.Decide.{ℕ_discrete}
use native.Mathlib.Omega.{arith}
use lib.ListN.{length}
use Rattle.rules.specs.Lists.{◌∈◌, Distinct}

-- the list without one place that holds x
without : (x : ℕ) (l : List ℕ) → x ∈ l → List ℕ
without x [] h = []
without x (y ∷ l) (inl e) = l
without x (y ∷ l) (inr h) = y ∷ without x l h

without-length : (x : ℕ) (l : List ℕ) (h : x ∈ l) → length l ≡ suc (length (without x l h))
unfolding without
without-length x [] h = absurd h
without-length x (y ∷ l) (inl e) = refl
without-length x (y ∷ l) (inr h) = ap suc (without-length x l h)

without_other : (x z : ℕ) (l : List ℕ) (h : x ∈ l) → ¬ (z ≡ x) → z ∈ l → z ∈ without x l h
unfolding without
without_other x z [] h d i = absurd h
without_other x z (y ∷ l) (inl e) d (inl q) = absurd (d (q ∙ sym e))
without_other x z (y ∷ l) (inl e) d (inr i) = i
without_other x z (y ∷ l) (inr h) d (inl q) = inl q
without_other x z (y ∷ l) (inr h) d (inr i) = inr (without_other x z l h d i)

pub pigeon : (l k : List ℕ) → Distinct l → ((x : ℕ) → x ∈ l → x ∈ k) → length l ≤ length k
pigeon [] k d f = zero-le
pigeon (x ∷ l) k d f =
    let h : x ∈ k = f x (inl refl) in
    let ih = pigeon l (without x k h) d.1 (λ z i. without_other x z k h (λ e. d.0 (subst (λ (y : ℕ). y ∈ l) e i)) (f z (inr i))) in
    omega (arith, without-length x k h, ih)

-- the numbers below n
pub below : ℕ → List ℕ
below zero = []
below (suc n) = n ∷ below n

pub below_length : (n : ℕ) → length (below n) ≡ n
unfolding below
below_length zero = refl
below_length (suc n) = ap suc (below_length n)

pub below_in : (n x : ℕ) → x < n → x ∈ below n
unfolding below
below_in zero x h = absurd (omega arith)
below_in (suc n) x h = go (λ q. below_in n x q) (ℕ_discrete x n)
  where
    go : (x < n → x ∈ below n) → Dec (x ≡ n) → (x ≡ n) ⊎ (x ∈ below n)
    go f (yes e) = inl e
    go f (no d) = inr (f (omega arith))

pub in-below : (n x : ℕ) → x ∈ below n → x < n
unfolding below
in-below zero x h = absurd h
in-below (suc n) x (inl e) = omega arith
in-below (suc n) x (inr h) = omega (arith, in-below n x h)

pub below-distinct : (n : ℕ) → Distinct (below n)
unfolding below
below-distinct zero = tt
below-distinct (suc n) = (λ i. lt_irrefl n (in-below n n i), below-distinct n)

-- different numbers below n: at most n of them
pub at_most : (n : ℕ) (l : List ℕ) → Distinct l → ((x : ℕ) → x ∈ l → x < n) → length l ≤ n
at_most n l d f = omega (arith, below_length n, pigeon l (below n) d (λ x i. below_in n x (f x i)))

pub in_map : (φ : ℕ → ℕ) (x : ℕ) (l : List ℕ) → x ∈ map φ l → (y : ℕ) × (y ∈ l) × (φ y ≡ x)
in_map φ x [] h = absurd h
in_map φ x (y ∷ l) (inl e) = (y, inl refl, sym e)
in_map φ x (y ∷ l) (inr h) = let r = in_map φ x l h in (r.0, inr r.1, r.2)

-- a list has two equal numbers, or has not
pub in? : (x : ℕ) (l : List ℕ) → Dec (x ∈ l)
in? x [] = no (λ h. h)
in? x (y ∷ l) = go (ℕ_discrete x y) (in? x l)
  where
    go : Dec (x ≡ y) → Dec (x ∈ l) → Dec ((x ≡ y) ⊎ (x ∈ l))
    go (yes e) r = yes (inl e)
    go (no d) (yes h) = yes (inr h)
    go (no d) (no g) = no (⊎_elim d g)
