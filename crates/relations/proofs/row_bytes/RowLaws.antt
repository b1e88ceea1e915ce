-- The tables' rows: read, and searched for stray bits.
use Prim.Native.Nat.{ℕ, zero, suc, ◌+◌, ◌*◌, ◌<◌, ◌≤◌, ◌^◌}
use mathlib.Core.Path.{◌≡◌, refl, sym, subst, ap, ◌∙◌}
use mathlib.Core.Logic.{◌⊎◌, inl, inr, ◌≢◌}
use mathlib.Core.List.{List}
use native.Mathlib.Decide.{dec_lt}
use native.Mathlib.Nat.{mul-zero, mul-suc}
use native.Mathlib.Omega.{arith}
use lib.ListN.{length, get_or, set, take, drop}
use lib.Seq.{drop-drop}
use Rattle.rules.proofs.Search.{First, None, first_below}
use Rattle.rows.specs.Rows.{Bit, Stray}
use Rattle.rows.specs.Row.{Meet, AllBelow}
use Rattle.rows.proofs.Bits.{bit?, same_bits}
use Rattle.rows.proofs.FillingRows.{FillingRows, fill_step, fill-each, fill-kept}
use Rattle.rows.proofs.Together.{Together}
use Rattle.relations.specs.row_bytes.RowBytes.{from_bytes, rows_of_bytes, row_at, Loaded}

-- ---- a row by its place

pub rows-length : (size n : ℕ) (table : List ℕ) → length (rows_of_bytes size n table) ≡ n
rows-length size zero table = refl
rows-length size (suc n) table = ap suc (rows-length size n (drop size table))

pub rows_at : (size n : ℕ) (table : List ℕ) (i : ℕ) → i < n → get_or (rows_of_bytes size n table) i 0 ≡ row_at size table i
rows_at size zero table i h = absurd (omega arith)
rows_at size (suc n) table zero h = ap (λ (k : ℕ). from_bytes (take size (drop k table))) (sym (mul-zero size))
rows_at size (suc n) table (suc i) h =
    rows_at size n (drop size table) i (omega arith)
    ∙ ap (λ (l : List ℕ). from_bytes (take size l)) (drop-drop (size * i) size table ∙ ap (λ (k : ℕ). drop k table) (next size i))
  where
    next : (size i : ℕ) → size + size * i ≡ size * suc i
    next size i = omega (arith, mul-suc size i)

-- ---- the rows of a table, laid in rows

-- row i of the table
abbrev pub IsRow : ℕ → ℕ → List ℕ → ℕ → ℕ → Type 0
IsRow size n table i r = r ≡ get_or (rows_of_bytes size n table) i 0

module _ (size n : ℕ) (table old : List ℕ) where
  pub load_step : (rows : List ℕ) (i r : ℕ) → n ≤ length old → i < n → r ≡ row_at size table i
      → FillingRows (IsRow size n table) n old rows i → FillingRows (IsRow size n table) n old (set rows i r) (i + 1)
  load_step rows i r hn hi e f = fill_step (IsRow size n table) n old rows i r hn hi (e ∙ sym (rows_at size n table i hi)) f

  pub load-end : (rows : List ℕ) (i : ℕ) → n ≤ i → FillingRows (IsRow size n table) n old rows i → Loaded size n table old rows
  load-end rows i h f = record { rows = fill-each (IsRow size n table) n old rows i h f; kept = fill-kept (IsRow size n table) n old rows i h f }

-- ---- stray bits

-- the first n rows are together `all`, whose bits below n are `low`
module _ (w : ℕ) (rows : List ℕ) (n all i below low : ℕ) (h : n ≤ i) (inv : Together w rows n all i) (only : AllBelow n below) (both : Meet all below low) where
  pub stray-none : low ≡ all → ¬ Stray n rows
  stray-none e s =
      let b = (inv.bits s.j).1 (s.i, omega (arith, s.i_below), s.bit) in
      absurd (omega (arith, s.j_above, (only.bits s.j).0 ((both.bits s.j).0 (subst (λ (r : ℕ). Bit r s.j) (sym e) b)).1))

  pub stray-some : low < 2 ^ w → low ≢ all → Stray n rows
  stray-some small g = go (first_below Above above? w)
    where
      Above : ℕ → Type 0
      Above j = (n ≤ j) × Bit all j

      above? : (j : ℕ) → Dec (Above j)
      above? j = pair (dec_lt j n) (bit? all j)
        where
          pair : Dec (j < n) → Dec (Bit all j) → Dec (Above j)
          pair (yes l) d = no (λ t. absurd (omega (arith, t.0)))
          pair (no l) (yes b) = yes (omega arith, b)
          pair (no l) (no f) = no (λ t. f t.1)

      under : None Above w → (j : ℕ) → j < w → Bit all j → Dec (j < n) → j < n
      under f j l b (yes k) = k
      under f j l b (no k) = absurd (f j l (omega arith, b))

      go : First Above w ⊎ None Above w → Stray n rows
      go (inl t) =
          let r = (inv.bits t.0).0 t.2.1 in
          record { i = r.0; j = t.0; i_below = omega (arith, r.1, inv.at_most); j_above = t.2.0; bit = r.2 }
      go (inr f) = absurd (g (same_bits w low all small inv.small (λ j l. (λ b. ((both.bits j).0 b).0, λ b. (both.bits j).1 (b, (only.bits j).1 (under f j l b (dec_lt j n)))))))
