-- A flag that tells whether something is so.
use Prim.Native.Nat.{ℕ}
use mathlib.Core.Path.{◌≡◌, refl}
use mathlib.Core.Bool.{Bool, true, false, not, decide}
use mathlib.Core.Logic.{◌≢◌, ◌↔◌}
use native.Mathlib.Decide.{ℕ_discrete}
use native.Mathlib.Omega.{arith}
use lib.Dec.{eqb}
use borrow.Author.Tests.{eqb-false, ne_eqb, not-true}

-- it is down: it is not so
pub told-false : (P : Type 0) (t : Bool) → (t ≡ true) ↔ P → t ≡ false → ¬ P
told-false P t f e p = let u = f.1 p in let z : ◌≡◌ {A = ℕ} 0 1 = cc in omega arith

-- it is not so: it is down
pub told-down : (P : Type 0) (t : Bool) → (t ≡ true) ↔ P → ¬ P → t ≡ false
told-down P true f g = absurd (g (f.0 refl))
told-down P false f g = refl

-- what can't be so is told by a flag that is down, what is so by one that is up
pub told-no : (P : Type 0) → ¬ P → (false ≡ true) ↔ P
told-no P g = (λ e. absurd (let z : ◌≡◌ {A = ℕ} 0 1 = cc in omega arith), λ p. absurd (g p))

pub told-yes : (P : Type 0) → P → (true ≡ true) ↔ P
told-yes P p = (λ e. p, λ q. refl)

-- a decision is such a flag
pub decide-tells : (P : Type 0) (d : Dec P) → (decide d ≡ true) ↔ P
unfolding decide
decide-tells P (yes p) = told-yes P p
decide-tells P (no g) = told-no P g

-- two numbers that differ where it is so
pub told-differ : (P : Type 0) (x y : ℕ) → (x ≢ y → P) → (x ≡ y → ¬ P) → (not (eqb x y) ≡ true) ↔ P
told-differ P x y some none = (λ e. some (eqb-false x y (not-true (eqb x y) e)), λ p. go (ℕ_discrete x y) p)
  where
    go : Dec (x ≡ y) → P → not (eqb x y) ≡ true
    go (yes e) p = absurd (none e p)
    go (no g) p = rw (ne_eqb x y g) refl
