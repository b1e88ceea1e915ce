-- A column: one number beside each of a row.
use Prim.Native.Nat.{ℕ, ◌+◌, ◌≤◌, ◌<◌, ◌^◌}
use mathlib.Core.Path.{◌≡◌, refl, sym, subst, ◌∙◌}
use mathlib.Core.Logic.{◌⊎◌, inl, inr, ⊎_elim, ◌↔◌}
use mathlib.Core.List.{List}
use native.Mathlib.Decide.{ℕ_discrete, dec_lt}
use native.Mathlib.Omega.{arith}
use lib.ListN.{length, get_or, set, length-set}
use lib.Seq.{get_or-set_same, get_or-set_other}
use borrow.Author.Count.{below_more}
use Rattle.rows.specs.Rows.{Bit}
use Rattle.rows.specs.Row.{With}
use Rattle.rows.proofs.Bits.{bit_below}
use Rattle.tables.specs.Relations.{Adds}
use Rattle.table_rows.specs.stalls.AtCell.{Column}

-- the rows before a have their column, the others are as they were
pub record Columns (who b : ℕ) (old : List ℕ) (a : ℕ) (new : List ℕ) : Type 0 where
  pub up : a ≤ 64
  pub long : length new ≡ 64
  pub done : (x : ℕ) → x < a → (j : ℕ) → Bit (get_or new x 0) j ↔ (Bit (get_or old x 0) j ⊎ Column who b x j)
  pub rest : (x : ℕ) → a ≤ x → get_or new x 0 ≡ get_or old x 0

-- the row of a, if a is among who and if not
pub column-yes : (who a b row new j : ℕ) → With row b new → Bit who a → Bit new j ↔ (Bit row j ⊎ Column who b a j)
column-yes who a b row new j w q =
    let r = w.bits j in
    (λ t. ⊎_elim (λ x. inl x) (λ e. inr (q, e)) (r.0 t), ⊎_elim (λ x. r.1 (inl x)) (λ e. r.1 (inr e.1)))

pub column-no : (who a b row j : ℕ) → ¬ Bit who a → Bit row j ↔ (Bit row j ⊎ Column who b a j)
column-no who a b row j g = (λ t. inl t, ⊎_elim (λ t. t) (λ t. absurd (g t.0)))

module _ (who b : ℕ) (old : List ℕ) where
  pub columns-start : length old ≡ 64 → Columns who b old 0 old
  columns-start e = record { up = omega arith; long = e; done = λ x h. absurd (omega arith); rest = λ x h. refl }

  pub columns-more : (a : ℕ) (new : List ℕ) (row : ℕ) → a < 64 → Columns who b old a new → ((j : ℕ) → Bit row j ↔ (Bit (get_or new a 0) j ⊎ Column who b a j))
      → Columns who b old (a + 1) (set new a row)
  columns-more a new row h c f = record {
    up = omega arith;
    long = length-set new a row ∙ c.long;
    done = λ x k j. pick x j k (ℕ_discrete x a);
    rest = λ x k. get_or-set_other new a x row 0 (λ e. omega arith) ∙ c.rest x (omega arith);
  }
    where
      pick : (x j : ℕ) → x < a + 1 → Dec (x ≡ a) → Bit (get_or (set new a row) x 0) j ↔ (Bit (get_or old x 0) j ⊎ Column who b x j)
      pick x j k (yes e) =
          subst (λ (i : ℕ). Bit (get_or (set new a row) i 0) j ↔ (Bit (get_or old i 0) j ⊎ Column who b i j)) (sym e)
          (rw (get_or-set_same new a row 0 (omega (arith, c.long)), ← c.rest a (omega arith)) (f j))
      pick x j k (no d) = rw (get_or-set_other new a x row 0 d) (c.done x (omega arith) j)

  -- a row that stays as it is
  pub columns-stay : (a : ℕ) (new : List ℕ) → a < 64 → ¬ Bit who a → Columns who b old a new → Columns who b old (a + 1) new
  columns-stay a new h g c = record { up = omega arith; long = c.long; done = below_more _ _ c.done (λ j. rw (c.rest a (omega arith)) (column-no who a b (get_or old a 0) j g)); rest = λ x k. c.rest x (omega arith) }

  pub columns-end : (a : ℕ) (new : List ℕ) → who < 2 ^ 64 → 64 ≤ a → Columns who b old a new → Adds (Column who b) old new
  columns-end a new h k c x j = pick (dec_lt x a)
    where
      pick : Dec (x < a) → Bit (get_or new x 0) j ↔ (Bit (get_or old x 0) j ⊎ Column who b x j)
      pick (yes q) = c.done x q j
      pick (no g) = rw (c.rest x (omega arith)) (λ t. inl t, ⊎_elim (λ t. t) (λ t. absurd (omega (arith, bit_below 64 who x h t.0))))
