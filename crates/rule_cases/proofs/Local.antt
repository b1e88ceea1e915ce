-- Heights, from what a loop can see: who waits is higher, and by one than some message that it waits for.
use Prim.Native.Nat.{ℕ, zero, suc, ◌<◌, ◌≤◌, zero-le}
use mathlib.Core.Path.{◌≡◌, refl, ap}
use mathlib.Core.Logic.{◌⊎◌, inl, inr}
use mathlib.Core.List.{List, [], ◌∷◌}
use native.Mathlib.Omega.{arith}
use lib.ListN.{length}
use Rattle.rules.specs.Walks.{Chain}
use Rattle.rules.specs.Rules.{Relations, Mapping, Waits}
use Rattle.rules.specs.Plan.{Printed, LongestChain}
use Rattle.rules.proofs.Least.{longest-from}

module _ (p : Relations) (within : (m k : ℕ) → Waits p m k → (m < p.count) × (k < p.count)) (φ : Mapping)
    (down : (m k : ℕ) → Waits p m k → φ k < φ m)
    (by_one : (m : ℕ) → m < p.count → (φ m ≡ 0) ⊎ ((k : ℕ) × Waits p m k × (φ m ≡ suc (φ k)))) where
  chain-le : (m : ℕ) (l : List ℕ) → Chain (Waits p) m l → length l ≤ φ m
  chain-le m [] c = zero-le
  chain-le m (b ∷ l) c = omega (arith, chain-le b l c.1, down m b c.0)

  chain-of : (h m : ℕ) → m < p.count → φ m ≡ h → (l : List ℕ) × Chain (Waits p) m l × (length l ≡ h)
  chain-of zero m hm e = ([], tt, refl)
  chain-of (suc h) m hm e = go (chain-of h) (by_one m hm)
    where
      go : ((k : ℕ) → k < p.count → φ k ≡ h → (l : List ℕ) × Chain (Waits p) k l × (length l ≡ h))
          → (φ m ≡ 0) ⊎ ((k : ℕ) × Waits p m k × (φ m ≡ suc (φ k))) → (l : List ℕ) × Chain (Waits p) m l × (length l ≡ suc h)
      go ih (inl z) = absurd (omega arith)
      go ih (inr t) = let r = ih t.0 (within m t.0 t.1).1 (omega (arith, t.2)) in (t.0 ∷ r.0, (t.1, r.1), ap suc r.2)

  pub printed-local : Printed p φ
  printed-local m hm = let t = chain-of (φ m) m hm refl in record { rest = t.0; chain = t.1; steps = t.2; longest = chain-le m }

  pub longest-local : (x : ℕ) → x < p.count → ((y : ℕ) → y < p.count → φ y ≤ φ x) → LongestChain p (suc (φ x))
  longest-local x hx top = longest-from p φ printed-local x hx top (suc (φ x)) refl
