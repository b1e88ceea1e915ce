-- The rows of waits: what the loops keep, and that the rows are those of rule 4.
use Prim.Native.Nat.{ℕ, zero, suc, ◌+◌, ◌*◌, ◌<◌, ◌≤◌}
use mathlib.Core.Path.{◌≡◌, refl, subst}
use mathlib.Core.Logic.{inl, inr, ◌↔◌}
use mathlib.Core.List.{List}
use native.Mathlib.Numerals.{add-one}
use native.Mathlib.Decide.{ℕ_discrete}
use native.Mathlib.Omega.{arith}
use lib.ListN.{get_or}
use Rattle.rules.specs.Walks.{Plus}
use Rattle.rules.specs.Rules.{Waits}
use Rattle.rules.specs.Plan.{Counts, Pairs}
use Rattle.rules.proofs.Chains.{plus-map}
use Rattle.rules.proofs.Same.{counts-map}
use Rattle.rules.proofs.Decided.{waits-within}
use Rattle.rows.specs.Rows.{Bit, Rows, of_rows}
use Rattle.rows.specs.Row.{Ones}
use Rattle.rows.specs.Closure.{RowStep, Closure}
use Rattle.rows.proofs.Given.{rows-accepted}
use Rattle.rows.proofs.Counting.{counts-le}
use Rattle.rows.specs.Gather.{Tidy, Gathered}
use Rattle.waits.specs.Waiting.{WaitsRows, RowPairs}

-- ---- rule 4

module _ (n : ℕ) (causes : List ℕ) (tidy : Tidy n causes) where
  pub steps-rows : (a c : ℕ) → Plus (RowStep n causes) a c ↔ Plus (Rows n causes) a c
  steps-rows a c = (
    plus-map (λ i j s. record { i_below = s.0; j_below = tidy i j s.0 s.1; bit = s.1 }) a c,
    plus-map (λ i j r. (r.i_below, r.bit)) a c,
  )

  pub waits-of : (closed stalls old new : List ℕ) → Closure n causes closed → Gathered n closed stalls old new → WaitsRows n causes stalls old new
  waits-of closed stalls old new cl g = record {
    bits = λ b c h. (
      λ x. let t = (g.bits b c h).0 x in (t.0, record { i_below = t.1; j_below = h; bit = t.2 }, (steps-rows t.0 c).0 ((cl.reached t.0 c t.1).0 t.3)),
      λ w. (g.bits b c h).1 (w.0, w.1.i_below, w.1.bit, (cl.reached w.0 c w.1.i_below).1 ((steps-rows w.0 c).1 w.2)),
    );
    kept = g.kept;
  }

module _ (n : ℕ) (causes stalls old new : List ℕ) (w : WaitsRows n causes stalls old new) where
  waits-below : (b c : ℕ) → b < n → Waits (of_rows n causes stalls) b c → c < n
  waits-below b c h x = (waits-within (of_rows n causes stalls) (rows-accepted n causes stalls (omega arith)) b c x).1

  pub waits-tidy : Tidy n new
  waits-tidy b c h x = waits-below b c h ((w.bits b c h).0 x)

  pub waits-same : (b c : ℕ) → Rows n new b c ↔ Waits (of_rows n causes stalls) b c
  waits-same b c = (λ r. (w.bits b c r.i_below).0 r.bit, λ x. let h = x.1.j_below in record { i_below = h; j_below = waits-below b c h x; bit = (w.bits b c h).1 x })

-- ---- the number of pairs

-- none from n on: it is the same to count below n
counts-cut : (P : ℕ → Type 0) (n w k : ℕ) → n ≤ w → ((j : ℕ) → P j → j < n) → Counts P w k → Counts P n k
counts-cut P n zero k h f t = let e : n ≡ 0 = omega arith in rw e t
counts-cut P n (suc w) k h f t = go (counts-cut P n w) (ℕ_discrete n (suc w)) t
  where
    go : ((k : ℕ) → n ≤ w → ((j : ℕ) → P j → j < n) → Counts P w k → Counts P n k) → Dec (n ≡ suc w) → Counts P (suc w) k → Counts P n k
    go ih (yes e) t = rw e t
    go ih (no g) (inl t) = absurd (omega (arith, f w t.1))
    go ih (no g) (inr t) = ih k (omega arith) f t.1

-- the rows have w bits
module _ (w n : ℕ) (rows : List ℕ) where
  pub record PairsInv (sum i : ℕ) : Type 0 where
    pub at_most : i ≤ n
    pub small : sum ≤ i * w
    pub counted : Pairs (Rows n rows) n i sum

  pub pairs_start : PairsInv 0 0
  pairs_start = record { at_most = omega arith; small = omega arith; counted = refl }

  pub pairs-step : (sum i k : ℕ) → n ≤ w → Tidy n rows → i < n → Ones w (get_or rows i 0) k → PairsInv sum i → PairsInv (sum + k) (i + 1)
  pairs-step sum i k hn tidy hi o inv = record {
    at_most = omega arith;
    small = omega (arith, counts-le (Bit (get_or rows i 0)) w k o.counted, inv.small);
    counted = rw (add-one i) (k, sum, row, inv.counted, omega arith);
  }
    where
      same : (j : ℕ) → Bit (get_or rows i 0) j ↔ Rows n rows i j
      same j = (λ b. record { i_below = hi; j_below = tidy i j hi b; bit = b }, λ r. r.bit)

      row : Counts (Rows n rows i) n k
      row = counts-cut (Rows n rows i) n w k hn (λ j r. r.j_below) (counts-map (Bit (get_or rows i 0)) (Rows n rows i) same w k o.counted)

  pub pairs_end : (sum i : ℕ) → n ≤ i → PairsInv sum i → RowPairs n rows sum
  pairs_end sum i h inv = record { counted = subst (λ (m : ℕ). Pairs (Rows n rows) n m sum) (let e : i ≡ n = omega (arith, inv.at_most) in e) inv.counted }

pub ones_small : (w row k : ℕ) → Ones w row k → k ≤ w
ones_small w row k o = counts-le (Bit row) w k o.counted
