-- Whether rows have a stray bit can be told.
use Prim.Native.Nat.{ℕ, ◌+◌, ◌<◌, ◌≤◌, ◌/◌, ◌^◌}
use mathlib.Core.Path.{◌≡◌}
use mathlib.Core.List.{List}
use native.Mathlib.Decide.{ℕ_discrete}
use native.Mathlib.Omega.{arith}
use lib.ListN.{get_or}
use Rattle.rules.proofs.Search.{some-below?}
use Rattle.rows.specs.Rows.{Bit, Stray}
use Rattle.rows.proofs.Bits.{some-bit, bit-shr, none_from}

abbrev Above : ℕ → ℕ → Type 0
Above n row = (j : ℕ) × (n ≤ j) × Bit row j

above? : (n row : ℕ) → Dec (Above n row)
above? n row = go (ℕ_discrete (row / 2 ^ n) 0)
  where
    go : Dec (row / 2 ^ n ≡ 0) → Dec (Above n row)
    go (yes e) = no (λ t. none_from row n t.0 e t.1 t.2)
    go (no g) = let t = some-bit (row / 2 ^ n) g in yes (n + t.0, omega arith, (bit-shr row n t.0).0 t.1)

pub stray? : (n : ℕ) (rows : List ℕ) → Dec (Stray n rows)
stray? n rows = go (some-below? (λ i. Above n (get_or rows i 0)) (λ i. above? n (get_or rows i 0)) n)
  where
    go : Dec ((i : ℕ) × (i < n) × Above n (get_or rows i 0)) → Dec (Stray n rows)
    go (yes t) = yes (record { i = t.0; j = t.2.0; i_below = t.1; j_above = t.2.1; bit = t.2.2 })
    go (no g) = no (λ s. g (s.i, s.i_below, (s.j, s.j_above, s.bit)))
