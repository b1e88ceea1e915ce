-- Search below a bound, and whether a relation leads from a to b in one or more steps.
use Prim.Native.Nat.{ℕ, zero, suc, ◌<◌}
use mathlib.Core.Path.{◌≡◌, subst}
use mathlib.Core.Logic.{◌⊎◌, inl, inr, ⊎_elim}
use mathlib.Core.List.{List, [], ◌∷◌, ◌++◌}
use native.Mathlib.Decide.{ℕ_discrete}
use native.Mathlib.Omega.{arith}
use Rattle.rules.specs.Walks.{Rel, Chain, Plus}
use Rattle.rules.proofs.Chains.{plus_one, plus-trans}

-- what holds below n and at n holds below n + 1
pub below_suc : (Q : ℕ → Type 0) (n : ℕ) → ((y : ℕ) → y < n → Q y) → Q n → (y : ℕ) → y < suc n → Q y
below_suc Q n f q y h = go (ℕ_discrete y n)
  where
    go : Dec (y ≡ n) → Q y
    go (yes e) = rw e q
    go (no d) = f y (omega arith)

-- ---- the first and the last number below n that pass

module _ (P : ℕ → Type 0) where
  abbrev pub First : ℕ → Type 0
  First n = (x : ℕ) × (x < n) × P x × ((y : ℕ) → y < x → ¬ P y)

  abbrev pub Last : ℕ → Type 0
  Last n = (x : ℕ) × (x < n) × P x × ((y : ℕ) → x < y → y < n → ¬ P y)

  abbrev pub None : ℕ → Type 0
  None n = (y : ℕ) → y < n → ¬ P y

module _ (P : ℕ → Type 0) (P? : (x : ℕ) → Dec (P x)) where
  pub first_below : (n : ℕ) → First P n ⊎ None P n
  first_below zero = inr (λ y h. absurd (omega arith))
  first_below (suc n) = go (first_below n) (P? n)
    where
      go : First P n ⊎ None P n → Dec (P n) → First P (suc n) ⊎ None P (suc n)
      go (inl f) d = inl (f.0, omega (arith, f.1), f.2, f.3)
      go (inr f) (yes q) = inl (n, omega arith, q, f)
      go (inr f) (no g) = inr (below_suc (λ y. ¬ P y) n f g)

  pub last-below : (n : ℕ) → Last P n ⊎ None P n
  last-below zero = inr (λ y h. absurd (omega arith))
  last-below (suc n) = go (last-below n) (P? n)
    where
      go : Last P n ⊎ None P n → Dec (P n) → Last P (suc n) ⊎ None P (suc n)
      go r (yes q) = inl (n, omega arith, q, λ y h g. absurd (omega arith))
      go (inl f) (no g) = inl (f.0, omega (arith, f.1), f.2, λ y h k. below_suc (λ y. f.0 < y → ¬ P y) n (λ y k h. f.3 y h k) (λ h. g) y k h)
      go (inr f) (no g) = inr (below_suc (λ y. ¬ P y) n f g)

  pub some-below? : (n : ℕ) → Dec ((x : ℕ) × (x < n) × P x)
  some-below? n = go (first_below n)
    where
      go : First P n ⊎ None P n → Dec ((x : ℕ) × (x < n) × P x)
      go (inl f) = yes (f.0, f.1, f.2)
      go (inr f) = no (λ t. f t.0 t.1 t.2)

-- ---- one or more steps, decided as Warshall does

module _ (R : Rel) where
  -- from a to b by one or more steps that pass only numbers below k on the way
  abbrev pub Via : ℕ → Rel
  Via zero a b = R a b
  Via (suc k) a b = Via k a b ⊎ (Via k a k × Via k k b)

  pub via-plus : (k a b : ℕ) → Via k a b → Plus R a b
  via-plus zero a b r = plus_one a b r
  via-plus (suc k) a b (inl v) = via-plus k a b v
  via-plus (suc k) a b (inr v) = plus-trans a k b (via-plus k a k v.0) (via-plus k k b v.1)

  to-mid : (k a : ℕ) → Via (suc k) a k → Via k a k
  to-mid k a (inl v) = v
  to-mid k a (inr v) = v.0

  from-mid : (k b : ℕ) → Via (suc k) k b → Via k k b
  from-mid k b (inl v) = v
  from-mid k b (inr v) = v.1

  pub via-trans : (k a j b : ℕ) → j < k → Via k a j → Via k j b → Via k a b
  via-trans zero a j b h v w = absurd (omega arith)
  via-trans (suc k) a j b h v w = go (λ x y q. via-trans k x j y q) (ℕ_discrete j k)
    where
      both : ((x y : ℕ) → j < k → Via k x j → Via k j y → Via k x y) → j < k → Via (suc k) a j → Via (suc k) j b → Via (suc k) a b
      both ih q (inl v) (inl w) = inl (ih a b q v w)
      both ih q (inl v) (inr w) = inr (ih a k q v w.0, w.1)
      both ih q (inr v) (inl w) = inr (v.0, ih k b q v.1 w)
      both ih q (inr v) (inr w) = inr (v.0, w.1)

      go : ((x y : ℕ) → j < k → Via k x j → Via k j y → Via k x y) → Dec (j ≡ k) → Via (suc k) a b
      go ih (yes e) = inr (to-mid k a (subst (λ (z : ℕ). Via (suc k) a z) e v), from-mid k b (subst (λ (z : ℕ). Via (suc k) z b) e w))
      go ih (no d) = both ih (omega arith) v w

  via-step : (k a b : ℕ) → R a b → Via k a b
  via-step zero a b r = r
  via-step (suc k) a b r = inl (via-step k a b r)

  module _ (n : ℕ) (within : (a b : ℕ) → R a b → (a < n) × (b < n)) where
    chain-via : (a b : ℕ) (l : List ℕ) → Chain R a (l ++ b ∷ []) → Via n a b
    chain-via a b [] c = via-step n a b c.0
    chain-via a b (x ∷ l) c = via-trans n a x b (within a x c.0).1 (via-step n a x c.0) (chain-via x b l c.1)

    pub plus-via : (a b : ℕ) → Plus R a b → Via n a b
    plus-via a b w = chain-via a b w.0 w.1

  module _ (R? : (a b : ℕ) → Dec (R a b)) where
    unfoldable pub via? : (k a b : ℕ) → Dec (Via k a b)
    via? zero a b = R? a b
    via? (suc k) a b = go (via? k a b) (via? k a k) (via? k k b)
      where
        go : Dec (Via k a b) → Dec (Via k a k) → Dec (Via k k b) → Dec (Via k a b ⊎ (Via k a k × Via k k b))
        go (yes v) d e = yes (inl v)
        go (no f) (yes v) (yes w) = yes (inr (v, w))
        go (no f) (yes v) (no g) = no (⊎_elim f (λ t. g t.1))
        go (no f) (no g) e = no (⊎_elim f (λ t. g t.0))

    unfoldable pub plus? : (n : ℕ) → ((a b : ℕ) → R a b → (a < n) × (b < n)) → (a b : ℕ) → Dec (Plus R a b)
    plus? n within a b = go (via? n a b)
      where
        go : Dec (Via n a b) → Dec (Plus R a b)
        go (yes v) = yes (via-plus n a b v)
        go (no f) = no (λ w. f (plus-via n within a b w))
