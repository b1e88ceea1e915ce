-- A relation on the numbers below n that has no cycle: from each number there is a longest chain, of fewer than n steps.
use Prim.Native.Nat.{ℕ, zero, suc, ◌<◌, ◌≤◌}
use mathlib.Core.Path.{◌≡◌, refl, ap}
use mathlib.Core.Logic.{◌⊎◌, inl, inr}
use mathlib.Core.List.{List, [], ◌∷◌}
use native.Mathlib.Decide.{dec_le, dec_lt}
use native.Mathlib.Omega.{arith}
use lib.ListN.{length}
use Rattle.rules.specs.Lists.{◌∈◌, Distinct}
use Rattle.rules.specs.Walks.{Rel, Chain, Plus}
use Rattle.rules.specs.Plan.{Height}
use Rattle.rules.proofs.Chains.{plus_one, plus-cons}
use Rattle.rules.proofs.Pigeon.{at_most}
use Rattle.rules.proofs.Search.{Last, None, last-below, some-below?, below_suc}

-- the largest of f 0 .. f n
pub most : (f : ℕ → ℕ) (n : ℕ) → (x : ℕ) × (x < suc n) × ((y : ℕ) → y < suc n → f y ≤ f x)
most f zero = (zero, omega arith, λ y h. rw (zero-only y h) (omega arith))
  where
    zero-only : (y : ℕ) → y < 1 → y ≡ zero
    zero-only y h = omega arith
most f (suc n) = go (most f n)
  where
    go : (x : ℕ) × (x < suc n) × ((y : ℕ) → y < suc n → f y ≤ f x) → (x : ℕ) × (x < suc (suc n)) × ((y : ℕ) → y < suc (suc n) → f y ≤ f x)
    go t = pick (dec_le (f (suc n)) (f t.0))
      where
        pick : Dec (f (suc n) ≤ f t.0) → (x : ℕ) × (x < suc (suc n)) × ((y : ℕ) → y < suc (suc n) → f y ≤ f x)
        pick (yes h) = (t.0, omega (arith, t.1), below_suc (λ y. f y ≤ f t.0) (suc n) t.2 h)
        pick (no h) = (suc n, omega arith, below_suc (λ y. f y ≤ f (suc n)) (suc n) (λ y k. omega (arith, t.2 y k)) (omega arith))

module _ (R : Rel) (n : ℕ) (within : (a b : ℕ) → R a b → (a < n) × (b < n)) where
  pub chain-plus : (m : ℕ) (l : List ℕ) → Chain R m l → (x : ℕ) → x ∈ l → Plus R m x
  chain-plus m [] c x i = absurd i
  chain-plus m (b ∷ l) c x (inl e) = rw e (plus_one m b c.0)
  chain-plus m (b ∷ l) c x (inr i) = plus-cons m b x c.0 (chain-plus b l c.1 x i)

  pub chain-in : (m : ℕ) (l : List ℕ) → m < n → Chain R m l → (x : ℕ) → x ∈ (m ∷ l) → x < n
  chain-in m [] h c x (inl e) = rw e h
  chain-in m [] h c x (inr i) = absurd i
  chain-in m (b ∷ l) h c x (inl e) = rw e h
  chain-in m (b ∷ l) h c x (inr i) = chain-in b l (within m b c.0).1 c.1 x i

  module _ (acyclic : (a : ℕ) → ¬ Plus R a a) where
    chain-distinct : (m : ℕ) (l : List ℕ) → Chain R m l → Distinct (m ∷ l)
    chain-distinct m [] c = (λ i. i, tt)
    chain-distinct m (b ∷ l) c = (λ i. acyclic m (chain-plus m (b ∷ l) c m i), chain-distinct b l c.1)

    -- a chain has at most n numbers on it
    pub chain-short : (m : ℕ) (l : List ℕ) → m < n → Chain R m l → length l < n
    chain-short m l h c = at_most n (m ∷ l) (chain-distinct m l c) (chain-in m l h c)

    module _ (R? : (a b : ℕ) → Dec (R a b)) where
      abbrev Has : ℕ → ℕ → Type 0
      Has m k = (l : List ℕ) × Chain R m l × (length l ≡ k)

      has? : (k m : ℕ) → Dec (Has m k)
      has? zero m = yes ([], tt, refl)
      has? (suc k) m = go (some-below? (λ b. R m b × Has b k) (λ b. both (R? m b) (has? k b)) n)
        where
          both : {A B : Type 0} → Dec A → Dec B → Dec (A × B)
          both (yes a) (yes b) = yes (a, b)
          both (yes a) (no g) = no (λ t. g t.1)
          both (no g) d = no (λ t. g t.0)

          back : (l : List ℕ) → Chain R m l → length l ≡ suc k → (b : ℕ) × (b < n) × (R m b × Has b k)
          back [] c e = absurd (omega arith)
          back (b ∷ l) c e = (b, (within m b c.0).1, (c.0, (l, c.1, omega arith)))

          go : Dec ((b : ℕ) × (b < n) × (R m b × Has b k)) → Dec (Has m (suc k))
          go (yes t) = let h = t.2.1 in yes (t.0 ∷ h.0, (t.2.0, h.1), ap suc h.2)
          go (no g) = no (λ t. g (back t.0 t.1 t.2))

      pub height : (m : ℕ) → m < n → (h : ℕ) × (h < n) × Height R m h
      height m hm = go (last-below (Has m) (λ k. has? k m) n)
        where
          go : Last (Has m) n ⊎ None (Has m) n → (h : ℕ) × (h < n) × Height R m h
          go (inr g) = absurd (g zero (omega arith) ([], tt, refl))
          go (inl t) = (t.0, t.1, record { rest = t.2.0; chain = t.2.1; steps = t.2.2; longest = λ l c. top l c (dec_le (length l) t.0) })
            where
              top : (l : List ℕ) → Chain R m l → Dec (length l ≤ t.0) → length l ≤ t.0
              top l c (yes h) = h
              top l c (no h) = absurd (t.3 (length l) (omega arith) (chain-short m l hm c) (l, c, refl))

      -- the heights, as one function
      pub heights : (m : ℕ) → (h : ℕ) × (m < n → (h < n) × Height R m h)
      heights m = go (dec_lt m n)
        where
          go : Dec (m < n) → (h : ℕ) × (m < n → (h < n) × Height R m h)
          go (yes hm) = let t = height m hm in (t.0, λ _. (t.1, t.2))
          go (no g) = (zero, λ hm. absurd (g hm))
