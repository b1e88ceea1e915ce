-- The table of layers: from which numbers x is reached in how many steps.
use Prim.Native.Nat.{ℕ, zero, suc, ◌+◌, ◌<◌, ◌≤◌}
use mathlib.Core.Path.{◌≡◌}
use mathlib.Core.Logic.{inr, ⊎_elim, ◌↔◌}
use mathlib.Core.List.{List}
use native.Mathlib.Decide.{ℕ_discrete}
use native.Mathlib.Omega.{arith}
use native.Mathlib.Numerals.{add-one}
use lib.ListN.{length, get_or, set}
use lib.Seq.{get_or-set_same, get_or-set_other}
use Rattle.rules.specs.Walks.{Exactly}
use Rattle.rows.specs.Rows.{Bit, Rows}
use Rattle.rows.specs.Row.{With}
use Rattle.rows.specs.Closure.{KeptFrom}
use Rattle.rows.proofs.Bits.{bit-zero}
use Rattle.rows.proofs.FillingRows.{kept-all, kept_store}
use Rattle.walks.specs.Sets.{Into, Layers}

pub exactly-small : (s : List ℕ) (n k y x : ℕ) → x < n → Exactly (Rows n s) k y x → y < n
exactly-small s n zero y x h e = rw e h
exactly-small s n (suc k) y x h t = t.1.i_below

-- ---- the loop of `layers`

module _ (s : List ℕ) (n x : ℕ) where
  -- the row is the layer of k steps
  abbrev pub Layer : ℕ → ℕ → Type 0
  Layer k row = (y : ℕ) → Bit row y ↔ Exactly (Rows n s) k y x

  pub record LayersInv (old sets : List ℕ) (now k : ℕ) : Type 0 where
    pub small : k < n
    pub kept : KeptFrom n old sets
    pub now-is : Layer k now
    pub layers : Layers s n x (k + 1) sets

  pub layers-start : (sets : List ℕ) (v : ℕ) → x < n → n ≤ length sets → With 0 x v → LayersInv (set sets 0 v) (set sets 0 v) v 0
  layers-start sets v h e only = record { small = omega arith; kept = kept-all n (set sets 0 v); now-is = f; layers = first }
    where
      f : Layer 0 v
      f y = (λ b. ⊎_elim (λ z. absurd (bit-zero y z)) (λ q. q) ((only.bits y).0 b), λ q. (only.bits y).1 (inr q))

      first : Layers s n x (0 + 1) (set sets 0 v)
      first zero q = rw (get_or-set_same sets 0 v 0 (omega arith)) f
      first (suc k) q = absurd (omega arith)

  pub layers-step : (old sets : List ℕ) (now k next at : ℕ) → at ≡ k + 1 → x < n → n ≤ length old → at < n → Into s n now next → LayersInv old sets now k → LayersInv old (set sets at next) next at
  layers-step old sets now k next at e hx room hk i inv = record {
    small = hk;
    kept = kept_store n old sets at next hk inv.kept;
    now-is = rw (e, add-one k) next-is;
    layers = λ j h. go j h (ℕ_discrete j at);
  }
    where
      next-is : Layer (suc k) next
      next-is y = (
        λ b. let t = (i.bits y).0 b in let e = (inv.now-is t.1.0).0 t.1.2 in (t.1.0, record { i_below = t.0; j_below = exactly-small s n k t.1.0 x hx e; bit = t.1.1 }, e),
        λ t. (i.bits y).1 (t.1.i_below, (t.0, t.1.bit, (inv.now-is t.0).1 t.2)),
      )

      go : (j : ℕ) → j < at + 1 → Dec (j ≡ at) → Layer j (get_or (set sets at next) j 0)
      go j h (yes f) = rw (f, get_or-set_same sets at next 0 (omega (arith, inv.kept.long)), e, add-one k) next-is
      go j h (no q) = rw (get_or-set_other sets at j next 0 q) (inv.layers j (omega arith))

  pub layers-end : (old sets : List ℕ) (now k len : ℕ) → len ≤ k + 1 → LayersInv old sets now k → Layers s n x len sets
  layers-end old sets now k len h inv = λ j q. inv.layers j (omega arith)
