-- The bits of several rows, together: the invariant of a loop that joins them.
use Prim.Native.Nat.{ℕ, ◌+◌, ◌<◌, ◌≤◌, ◌^◌}
use mathlib.Core.Path.{◌≡◌, subst}
use mathlib.Core.Logic.{◌⊎◌, inl, inr, ⊎_elim, ◌↔◌}
use mathlib.Core.List.{List}
use native.Mathlib.Decide.{ℕ_discrete}
use native.Mathlib.Omega.{arith}
use lib.ListN.{get_or}
use lib.Pow.{pow_pos}
use Rattle.rows.specs.Rows.{Bit, AllBits}
use Rattle.rows.specs.Row.{Join}
use Rattle.rows.proofs.Bits.{bit-zero}

module _ (w : ℕ) (rows : List ℕ) (n : ℕ) where
  -- the bits of the rows below i, together, in a row of w bits
  pub record Together (all i : ℕ) : Type 0 where
    pub at_most : i ≤ n
    pub small : all < 2 ^ w
    pub bits : (j : ℕ) → Bit all j ↔ ((a : ℕ) × (a < i) × Bit (get_or rows a 0) j)

  pub together-start : Together 0 0
  together-start = record { at_most = omega arith; small = pow_pos w; bits = λ j. (λ b. absurd (bit-zero j b), λ t. absurd (omega (arith, t.1))) }

  pub together-step : (all i next : ℕ) → i < n → Join all (get_or rows i 0) next → next < 2 ^ w → Together all i → Together next (i + 1)
  together-step all i next hi joined small inv = record {
    at_most = omega arith;
    small = small;
    bits = λ j. (
      λ b. ⊎_elim (λ x. let t = (inv.bits j).0 x in (t.0, omega (arith, t.1), t.2)) (λ x. (i, omega arith, x)) ((joined.bits j).0 b),
      λ t. (joined.bits j).1 (pick j t (ℕ_discrete t.0 i)),
    );
  }
    where
      pick : (j : ℕ) (t : (a : ℕ) × (a < i + 1) × Bit (get_or rows a 0) j) → Dec (t.0 ≡ i) → Bit all j ⊎ Bit (get_or rows i 0) j
      pick j t (yes e) = inr (subst (λ (a : ℕ). Bit (get_or rows a 0) j) e t.2)
      pick j t (no g) = inl ((inv.bits j).1 (t.0, omega (arith, t.1), t.2))

  -- all rows are taken in
  pub together-end : (all i : ℕ) → n ≤ i → Together all i → AllBits n rows all
  together-end all i h inv j = (
    λ b. let t = (inv.bits j).0 b in (t.0, omega (arith, t.1, inv.at_most), t.2),
    λ t. (inv.bits j).1 (t.0, omega (arith, t.1), t.2),
  )
