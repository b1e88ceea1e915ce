-- One set advanced to the next: the numbers to which a step leads from it.
use Prim.Native.Nat.{ℕ}
use mathlib.Core.Path.{◌≡◌, refl, subst}
use mathlib.Core.Logic.{◌⊎◌, inl, inr, ⊎_elim, ◌↔◌}
use mathlib.Core.List.{List}
use native.Mathlib.Decide.{ℕ_discrete}
use lib.ListN.{get_or}
use Rattle.rows.specs.Rows.{Bit}
use Rattle.rows.specs.Row.{Without, Join, Meet, AllBelow}
use Rattle.rows.proofs.Bits.{bit-zero}
use Rattle.walks.specs.Sets.{After}

-- the steps of the set's numbers that are not left are taken
pub record AfterInv (s : List ℕ) (set r left : ℕ) : Type 0 where
  pub among : (z : ℕ) → Bit left z → Bit set z
  pub bits : (y : ℕ) → Bit r y ↔ ((z : ℕ) × Bit set z × (¬ Bit left z) × Bit (get_or s z 0) y)

pub after-start : (s : List ℕ) (set : ℕ) → AfterInv s set 0 set
after-start s set = record { among = λ z b. b; bits = λ y. (λ b. absurd (bit-zero y b), λ t. absurd (t.2 t.1)) }

module _ (s : List ℕ) (set r left first : ℕ) (low : Bit left first) (inv : AfterInv s set r left) where
  pub first-in : Bit set first
  first-in = inv.among first low

  pub after-step : (more next : ℕ) → Join r (get_or s first 0) more → Without left first next → AfterInv s set more next
  after-step more next joined cleared = record {
    among = λ z b. inv.among z ((cleared.bits z).0 b).0;
    bits = λ y. (
      λ b. ⊎_elim (λ p. let t = (inv.bits y).0 p in (t.0, t.1, λ q. t.2 ((cleared.bits t.0).0 q).0, t.3)) (λ p. (first, first-in, λ q. ((cleared.bits first).0 q).1 refl, p)) ((joined.bits y).0 b),
      λ t. (joined.bits y).1 (pick y t (ℕ_discrete t.0 first)),
    );
  }
    where
      pick : (y : ℕ) (t : (z : ℕ) × Bit set z × (¬ Bit next z) × Bit (get_or s z 0) y) → Dec (t.0 ≡ first) → Bit r y ⊎ Bit (get_or s first 0) y
      pick y t (yes e) = inr (subst (λ (k : ℕ). Bit (get_or s k 0) y) e t.3)
      pick y t (no d) = inl ((inv.bits y).1 (t.0, t.1, λ q. t.2 ((cleared.bits t.0).1 (q, d)), t.3))

pub after-end : (s : List ℕ) (n set r left all answer : ℕ) → left ≡ 0 → AllBelow n all → Meet r all answer → AfterInv s set r left → After s n set answer
after-end s n set r left all answer e below both inv = record {
  bits = λ y. (
    λ b. let t = (both.bits y).0 b in let u = (inv.bits y).0 t.0 in ((below.bits y).0 t.1, (u.0, u.1, u.3)),
    λ t. (both.bits y).1 ((inv.bits y).1 (t.1.0, t.1.1, λ b. bit-zero t.1.0 (subst (λ (k : ℕ). Bit k t.1.0) e b), t.1.2), (below.bits y).1 t.0),
  );
}
