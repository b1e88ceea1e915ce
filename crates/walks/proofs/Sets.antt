-- One set advanced to the next: the numbers from which a step leads into it.
use Prim.Native.Nat.{ℕ, ◌+◌, ◌<◌, ◌≤◌}
use mathlib.Core.Path.{◌≡◌, subst}
use mathlib.Core.Logic.{◌⊎◌, inl, inr, ⊎_elim, ◌≢◌, ◌↔◌}
use mathlib.Core.List.{List}
use native.Mathlib.Decide.{ℕ_discrete}
use native.Mathlib.Omega.{arith}
use lib.ListN.{get_or}
use Rattle.rows.specs.Rows.{Bit}
use Rattle.rows.specs.Row.{With, Meet}
use Rattle.rows.proofs.Bits.{meet-some, meet-none}
use Rattle.walks.specs.Sets.{Into}

abbrev pub Meets : ℕ → ℕ → Type 0
Meets a b = (z : ℕ) × Bit a z × Bit b z

-- ---- the loop of `into`

pub record IntoInv (s : List ℕ) (n set r y : ℕ) : Type 0 where
  pub at_most : y ≤ n
  pub bits : (z : ℕ) → Bit r z ↔ ((z < y) × Meets (get_or s z 0) set)

module _ (s : List ℕ) (n set r y : ℕ) (hy : y < n) (inv : IntoInv s n set r y) where
  -- the row of y and the set meet
  pub into-yes : (m v : ℕ) → Meet (get_or s y 0) set m → m ≢ 0 → With r y v → IntoInv s n set v (y + 1)
  into-yes m v both g with-y = record {
    at_most = omega arith;
    bits = λ z. (
      λ b. ⊎_elim (λ x. let t = (inv.bits z).0 x in (omega (arith, t.0), t.1)) (λ e. (omega (arith, e), rw e (meet-some (get_or s y 0) set m both g))) ((with-y.bits z).0 b),
      λ t. (with-y.bits z).1 (pick z t (ℕ_discrete z y)),
    );
  }
    where
      pick : (z : ℕ) → (z < y + 1) × Meets (get_or s z 0) set → Dec (z ≡ y) → Bit r z ⊎ (z ≡ y)
      pick z t (yes e) = inr e
      pick z t (no d) = inl ((inv.bits z).1 (omega (arith, t.0), t.1))

  -- they do not
  pub into-no : (m : ℕ) → Meet (get_or s y 0) set m → m ≡ 0 → IntoInv s n set r (y + 1)
  into-no m both e = record {
    at_most = omega arith;
    bits = λ z. (λ b. let t = (inv.bits z).0 b in (omega (arith, t.0), t.1), λ t. pick z t (ℕ_discrete z y));
  }
    where
      pick : (z : ℕ) → (z < y + 1) × Meets (get_or s z 0) set → Dec (z ≡ y) → Bit r z
      pick z t (yes q) = absurd (meet-none (get_or s y 0) set m both e t.1.0 (subst (λ (k : ℕ). Bit (get_or s k 0) t.1.0) q t.1.1) t.1.2)
      pick z t (no d) = (inv.bits z).1 (omega (arith, t.0), t.1)

pub into-end : (s : List ℕ) (n set r y : ℕ) → n ≤ y → IntoInv s n set r y → Into s n set r
into-end s n set r y h inv = let e : y ≡ n = omega (arith, inv.at_most) in record { bits = λ z. rw e at (inv.bits z) }
