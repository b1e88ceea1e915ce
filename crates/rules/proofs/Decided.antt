-- For an accepted protocol: waits and queues are pairs of messages, and can be told; an unfit mapping's closed walks are those that can be shown.
use Prim.Native.Nat.{ℕ, ◌<◌}
use mathlib.Core.Path.{◌≡◌, refl}
use mathlib.Core.Logic.{◌⊎◌, inl, inr, ⊎_elim}
use mathlib.Core.List.{List, [], ◌∷◌, ◌++◌}
use native.Mathlib.Decide.{ℕ_discrete, dec_lt}
use Rattle.rules.specs.Walks.{Rel, Chain, Plus, Somewhere, Begins}
use Rattle.rules.specs.Rules.{Relations, Mapping, Waits, Stalled, Queues, Step, Unfit, WaitsCycle}
use Rattle.rules.specs.Plan.{Closed}
use Rattle.rules.specs.Promises.{Accepted}
use Rattle.rules.proofs.Chains.{Star, plus_one, star-trans}
use Rattle.rules.proofs.Search.{some-below?, plus?}

pub plus-end : (R : Rel) (n : ℕ) → ((a b : ℕ) → R a b → (a < n) × (b < n)) → (a b : ℕ) (l : List ℕ) → Chain R a (l ++ b ∷ []) → b < n
plus-end R n within a b [] c = (within a b c.0).1
plus-end R n within a b (x ∷ l) c = plus-end R n within x b l c.1

pub both? : {A B : Type 0} → Dec A → Dec B → Dec (A × B)
both? (yes a) (yes b) = yes (a, b)
both? (yes a) (no g) = no (λ t. g t.1)
both? (no g) d = no (λ t. g t.0)

pub either? : {A B : Type 0} → Dec A → Dec B → Dec (A ⊎ B)
either? (yes a) d = yes (inl a)
either? (no g) (yes b) = yes (inr b)
either? (no g) (no h) = no (⊎_elim g h)

module _ (p : Relations) (acc : Accepted p) where
  pub waits-within : (b c : ℕ) → Waits p b c → (b < p.count) × (c < p.count)
  waits-within b c w = ((acc.stalls_messages w.0 b w.1).1, plus-end p.causes p.count acc.causes_messages w.0 c w.2.0 w.2.1)

  pub waits? : (b c : ℕ) → Dec (Waits p b c)
  waits? b c = go (some-below? (λ a. p.stalls a b × Plus p.causes a c) (λ a. both? (acc.stalls? a b) (plus? p.causes acc.causes? p.count acc.causes_messages a c)) p.count)
    where
      go : Dec ((a : ℕ) × (a < p.count) × (p.stalls a b × Plus p.causes a c)) → Dec (Waits p b c)
      go (yes t) = yes (t.0, t.2.0, t.2.1)
      go (no g) = no (λ w. g (w.0, (acc.stalls_messages w.0 b w.1).0, (w.1, w.2)))

  pub stalled? : (k : ℕ) → Dec (Stalled p k)
  stalled? k = go (some-below? (λ a. p.stalls a k) (λ a. acc.stalls? a k) p.count)
    where
      go : Dec ((a : ℕ) × (a < p.count) × p.stalls a k) → Dec (Stalled p k)
      go (yes t) = yes (t.0, t.2)
      go (no g) = no (λ w. g (w.0, (acc.stalls_messages w.0 k w.1).0, w.1))

  module _ (φ : Mapping) where
    pub queues? : (m k : ℕ) → Dec (Queues p φ m k)
    queues? m k = go (dec_lt m p.count) (dec_lt k p.count) (ℕ_discrete m k) (ℕ_discrete (φ m) (φ k)) (stalled? k)
      where
        go : Dec (m < p.count) → Dec (k < p.count) → Dec (m ≡ k) → Dec (φ m ≡ φ k) → Dec (Stalled p k) → Dec (Queues p φ m k)
        go (no g) d₁ d₂ d₃ d₄ = no (λ q. g q.m-message)
        go (yes a) (no g) d₂ d₃ d₄ = no (λ q. g q.k-message)
        go (yes a) (yes b) (yes e) d₃ d₄ = no (λ q. q.differ e)
        go (yes a) (yes b) (no g) (no h) d₄ = no (λ q. h q.share)
        go (yes a) (yes b) (no g) (yes e) (no h) = no (λ q. h q.stalled)
        go (yes a) (yes b) (no g) (yes e) (yes s) = yes (record { m-message = a; k-message = b; differ = g; share = e; stalled = s })

    pub step? : (m k : ℕ) → Dec (Step p φ m k)
    step? m k = either? (waits? m k) (queues? m k)

    pub step-within : (m k : ℕ) → Step p φ m k → (m < p.count) × (k < p.count)
    step-within m k (inl w) = waits-within m k w
    step-within m k (inr q) = (q.m-message, q.k-message)

-- ---- a closed walk with a waits step somewhere can be written so that it begins with one

module _ (W S : Rel) (also : (a b : ℕ) → W a b → S a b) where
  pub turn : (a b : ℕ) (l : List ℕ) → Chain S a (l ++ b ∷ []) → Somewhere W a (l ++ b ∷ []) → (x : ℕ) × (y : ℕ) × Star S a x × W x y × Star S y b
  turn a b [] c (inl w) = (a, b, inl refl, w, inl refl)
  turn a b [] c (inr w) = absurd w
  turn a b (z ∷ l) c (inl w) = (a, z, inl refl, w, inr (l, c.1))
  turn a b (z ∷ l) c (inr w) = let t = turn z b l c.1 w in (t.0, t.1, star-trans a z t.0 (inr (plus_one a z c.0)) t.2, t.3, t.4)

  close : (x y : ℕ) → W x y → Star S y x → (ms : List ℕ) × Closed W S ms
  close x y w (inl e) = let v : W x x = rw e at w in (x ∷ [], (v, (also x x v, tt)))
  close x y w (inr v) = (x ∷ (y ∷ v.0), (w, (also x y w, v.1)))

  pub closed_of : (a : ℕ) (l : List ℕ) → Chain S a (l ++ a ∷ []) → Somewhere W a (l ++ a ∷ []) → (ms : List ℕ) × Closed W S ms
  closed_of a l c s = let t = turn a a l c s in close t.0 t.1 t.3 (star-trans t.1 a t.0 t.4 t.2)

begins-somewhere : (R : Rel) (a : ℕ) (l : List ℕ) → Begins R a l → Somewhere R a l
begins-somewhere R a [] b = absurd b
begins-somewhere R a (x ∷ l) b = inl b

pub closed-unfit : (p : Relations) (φ : Mapping) (ms : List ℕ) → Closed (Waits p) (Step p φ) ms → Unfit p φ
closed-unfit p φ [] c = absurd c
closed-unfit p φ (a ∷ l) c = record { a = a; l = l; walk = c.1; some-waits = begins-somewhere (Waits p) a (l ++ a ∷ []) c.0 }

pub unfit-closed : (p : Relations) (φ : Mapping) → Unfit p φ → (ms : List ℕ) × Closed (Waits p) (Step p φ) ms
unfit-closed p φ u = closed_of (Waits p) (Step p φ) (λ a b. inl) u.a u.l u.walk u.some-waits

pub closed-cycle : (p : Relations) (ms : List ℕ) → Closed (Waits p) (Waits p) ms → WaitsCycle p
closed-cycle p [] c = absurd c
closed-cycle p (a ∷ l) c = (a, (l, c.1))

chain-begins : (R : Rel) (a b : ℕ) (l : List ℕ) → Chain R a (l ++ b ∷ []) → Begins R a (l ++ b ∷ [])
chain-begins R a b [] c = c.0
chain-begins R a b (x ∷ l) c = c.0

-- one or more steps that lead back are a closed walk
pub plus-closed : (R : Rel) (a : ℕ) → Plus R a a → (ms : List ℕ) × Closed R R ms
plus-closed R a w = (a ∷ w.0, (chain-begins R a a w.0 w.1, w.1))

pub cycle-closed : (p : Relations) → WaitsCycle p → (ms : List ℕ) × Closed (Waits p) (Waits p) ms
cycle-closed p c = plus-closed (Waits p) c.0 c.1
