-- Rule 5 in rows: what the loops over the messages keep.
use Prim.Native.Nat.{ℕ, ◌+◌, ◌<◌, ◌≤◌}
use mathlib.Core.Path.{◌≡◌, sym, subst}
use mathlib.Core.Logic.{◌⊎◌, inl, inr, ⊎_elim, ◌↔◌}
use mathlib.Core.List.{List, []}
use native.Mathlib.Decide.{ℕ_discrete}
use native.Mathlib.Omega.{arith}
use lib.ListN.{get_or, replicate}
use Rattle.rules.specs.Rules.{Mapping, Queues}
use Rattle.rows.specs.Rows.{Bit, AllBits, of_rows}
use Rattle.rows.specs.Row.{Join}
use Rattle.rows.proofs.Bits.{bit-zero}
use Rattle.rows.proofs.FillingRows.{FillingRows, fill-each, fill-kept}
use Rattle.waits.specs.steps.Steps.{StepsRows, Behind, WithBehind, QueuesRow}

module _ (φ : Mapping) (stalled m : ℕ) where
  -- the bits of the row are those below k behind which m queues
  pub record Queueing (k row : ℕ) : Type 0 where
    pub bits : (j : ℕ) → Bit row j ↔ ((j < k) × Behind φ stalled m j)

  pub queueing-none : Queueing 0 0
  queueing-none = record { bits = λ j. (λ b. absurd (bit-zero j b), λ t. absurd (omega (arith, t.0))) }

  pub queueing-more : (k row next : ℕ) → WithBehind φ stalled m k row next → Queueing k row → Queueing (k + 1) next
  queueing-more k row next w inv = record {
    bits = λ j. (
      λ b. ⊎_elim (λ x. let t = (inv.bits j).0 x in (omega (arith, t.0), t.1)) (λ x. (omega (arith, x.0), subst (Behind φ stalled m) (sym x.0) x.1)) ((w j).0 b),
      λ t. (w j).1 (pick j t (ℕ_discrete j k)),
    );
  }
    where
      pick : (j : ℕ) → (j < k + 1) × Behind φ stalled m j → Dec (j ≡ k) → Bit row j ⊎ ((j ≡ k) × Behind φ stalled m k)
      pick j t (yes e) = inr (e, subst (Behind φ stalled m) e t.1)
      pick j t (no g) = inl ((inv.bits j).1 (omega (arith, t.0), t.1))

  pub queueing-all : (n k row : ℕ) → k ≡ n → Queueing k row → QueuesRow φ stalled n m row
  queueing-all n k row e inv = subst (λ (i : ℕ). QueuesRow φ stalled i m row) e inv.bits

-- row m has the waits and the queues steps
abbrev pub IsSteps : List ℕ → Mapping → ℕ → ℕ → ℕ → ℕ → Type 0
IsSteps waits φ stalled n m r = (k : ℕ) → Bit r k ↔ (Bit (get_or waits m 0) k ⊎ ((k < n) × Behind φ stalled m k))

pub steps-row : (waits : List ℕ) (φ : Mapping) (stalled n m q r : ℕ) → QueuesRow φ stalled n m q → Join (get_or waits m 0) q r → IsSteps waits φ stalled n m r
steps-row waits φ stalled n m q r f j k = (
  λ b. ⊎_elim inl (λ x. inr ((f k).0 x)) ((j.bits k).0 b),
  λ x. (j.bits k).1 (⊎_elim inl (λ y. inr ((f k).1 y)) x),
)

pub steps-end : (most : ℕ) (waits stalls : List ℕ) (φ : Mapping) (stalled n : ℕ) (rows : List ℕ) (i : ℕ) → n ≤ i → AllBits n stalls stalled
    → FillingRows (IsSteps waits φ stalled n) n (replicate most 0) rows i → StepsRows most waits stalls φ n rows
steps-end most waits stalls φ stalled n rows i h s f = record { bits = bits; kept = fill-kept (IsSteps waits φ stalled n) n (replicate most 0) rows i h f }
  where
    queues : (m k : ℕ) → m < n → (k < n) × Behind φ stalled m k → Queues (of_rows n [] stalls) φ m k
    queues m k l x =
        let a = (s k).0 x.1.bit in
        record { m-message = l; k-message = x.0; differ = x.1.differ; share = x.1.share; stalled = (a.0, record { i_below = a.1; j_below = x.0; bit = a.2 }) }

    behind : (m k : ℕ) → Queues (of_rows n [] stalls) φ m k → (k < n) × Behind φ stalled m k
    behind m k q = (q.k-message, record { differ = q.differ; share = q.share; bit = (s k).1 (q.stalled.0, q.stalled.1.i_below, q.stalled.1.bit) })

    bits : (m k : ℕ) → m < n → Bit (get_or rows m 0) k ↔ (Bit (get_or waits m 0) k ⊎ Queues (of_rows n [] stalls) φ m k)
    bits m k l =
        let t = fill-each (IsSteps waits φ stalled n) n (replicate most 0) rows i h f m l k in
        (λ b. ⊎_elim inl (λ x. inr (queues m k l x)) (t.0 b), λ x. t.1 (⊎_elim inl (λ q. inr (behind m k q)) x))
