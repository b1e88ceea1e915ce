-- Rows of bits are accepted.
use Prim.Native.Nat.{ℕ, ◌<◌, ◌/◌, ◌%◌, ◌^◌}
use mathlib.Core.List.{List}
use native.Mathlib.Decide.{ℕ_discrete, dec_lt}
use lib.ListN.{get_or}
use Rattle.rules.specs.Promises.{Accepted}
use Rattle.rows.specs.Rows.{Bit, Rows, of_rows}

pub rows? : (n : ℕ) (rows : List ℕ) (i j : ℕ) → Dec (Rows n rows i j)
rows? n rows i j = pick (dec_lt i n) (dec_lt j n) (ℕ_discrete (get_or rows i 0 / 2 ^ j % 2) 1)
  where
    pick : Dec (i < n) → Dec (j < n) → Dec (Bit (get_or rows i 0) j) → Dec (Rows n rows i j)
    pick (no g) d e = no (λ r. g r.i_below)
    pick (yes a) (no g) e = no (λ r. g r.j_below)
    pick (yes a) (yes b) (no g) = no (λ r. g r.bit)
    pick (yes a) (yes b) (yes c) = yes (record { i_below = a; j_below = b; bit = c })

pub rows-accepted : (n : ℕ) (causes stalls : List ℕ) → 0 < n → Accepted (of_rows n causes stalls)
rows-accepted n causes stalls h = record {
  some_message = h;
  causes_messages = λ a b r. (r.i_below, r.j_below);
  stalls_messages = λ a b r. (r.i_below, r.j_below);
  causes? = rows? n causes;
  stalls? = rows? n stalls;
}
