-- Counts: how large they are, and that they see only the numbers below the bound.
use Prim.Native.Nat.{ℕ, zero, suc, ◌*◌, ◌<◌, ◌≤◌}
use mathlib.Core.Logic.{inl, inr, ◌↔◌}
use native.Mathlib.Nat.{suc-mul}
use native.Mathlib.Omega.{arith}
use Rattle.rules.specs.Walks.{Rel}
use Rattle.rules.specs.Plan.{Counts, Pairs}

pub counts-le : (P : ℕ → Type 0) (n k : ℕ) → Counts P n k → k ≤ n
counts-le P zero k e = omega arith
counts-le P (suc n) k (inl t) = omega (arith, counts-le P n t.0 t.2, t.3)
counts-le P (suc n) k (inr t) = omega (arith, counts-le P n k t.1)

-- n is at most w: each number below b has at most w partners
pub pairs-le : (R : Rel) (w n b k : ℕ) → n ≤ w → Pairs R n b k → k ≤ b * w
pairs-le R w n zero k h e = omega (arith, e)
pairs-le R w n (suc b) k h t = omega (arith, counts-le (R b) n t.0 t.2, pairs-le R w n b t.1 h t.3, t.4, suc-mul b w)

pub counts-below : (P Q : ℕ → Type 0) (n k : ℕ) → ((j : ℕ) → j < n → P j ↔ Q j) → Counts P n k → Counts Q n k
counts-below P Q zero k f e = e
counts-below P Q (suc n) k f (inl t) = inl (t.0, (f n (omega arith)).0 t.1, counts-below P Q n t.0 (λ j h. f j (omega arith)) t.2, t.3)
counts-below P Q (suc n) k f (inr t) = inr (λ q. t.0 ((f n (omega arith)).1 q), counts-below P Q n k (λ j h. f j (omega arith)) t.1)
