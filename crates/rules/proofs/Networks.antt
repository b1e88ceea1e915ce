-- Judging by the networks alone gives the same answer as the walks over single messages.
use Prim.Native.Nat.{ℕ, ◌<◌}
use mathlib.Core.Path.{◌≡◌, refl, sym, ◌∙◌}
use mathlib.Core.Logic.{inl, inr, ◌↔◌}
use mathlib.Core.List.{List, [], ◌∷◌, ◌++◌}
use native.Mathlib.Decide.{ℕ_discrete}
use Rattle.rules.specs.Walks.{Chain, Plus, Somewhere}
use Rattle.rules.specs.Rules.{Relations, Mapping, Waits, Stalled, Step, Unfit, Leads, NetUnfit, WaitsCycle}
use Rattle.rules.proofs.Chains.{Star, chain-map, plus_one, star-plus, plus-star, star-trans}

module _ (p : Relations) (within : (m k : ℕ) → Waits p m k → (m < p.count) × (k < p.count)) (φ : Mapping) where
  pub lead : (m k : ℕ) → Waits p m k → Leads p φ (φ m) (φ k)
  lead m k w = record { m = m; k = k; in-A = refl; in-B = refl; waits = w }

  step-leads : (m k : ℕ) → Step p φ m k → Star (Leads p φ) (φ m) (φ k)
  step-leads m k (inl w) = inr (plus_one (φ m) (φ k) (lead m k w))
  step-leads m k (inr q) = inl q.share

  walk-leads : (a b : ℕ) (l : List ℕ) → Chain (Step p φ) a (l ++ b ∷ []) → Star (Leads p φ) (φ a) (φ b)
  walk-leads a b [] w = step-leads a b w.0
  walk-leads a b (x ∷ l) w = star-trans (φ a) (φ x) (φ b) (step-leads a x w.0) (walk-leads x b l w.1)

  waits-leads : (a b : ℕ) (l : List ℕ) → Chain (Step p φ) a (l ++ b ∷ []) → Somewhere (Waits p) a (l ++ b ∷ []) → Plus (Leads p φ) (φ a) (φ b)
  waits-leads a b [] w (inl s) = plus_one (φ a) (φ b) (lead a b s)
  waits-leads a b [] w (inr s) = absurd s
  waits-leads a b (x ∷ l) w (inl s) = plus-star (φ a) (φ x) (φ b) (plus_one (φ a) (φ x) (lead a x s)) (walk-leads x b l w.1)
  waits-leads a b (x ∷ l) w (inr s) = star-plus (φ a) (φ x) (φ b) (step-leads a x w.0) (waits-leads x b l w.1 s)

  -- messages of one network: the second is the first, or the first queues behind it, if something stalls it
  hop : (m k : ℕ) → m < p.count → k < p.count → φ m ≡ φ k → Stalled p k → Star (Step p φ) m k
  hop m k hm hk e s = go (ℕ_discrete m k)
    where
      go : Dec (m ≡ k) → Star (Step p φ) m k
      go (yes q) = inl q
      go (no d) = inr (plus_one m k (inr (record { m-message = hm; k-message = hk; differ = d; share = e; stalled = s })))

  waiter-stalled : (m k : ℕ) → Waits p m k → Stalled p m
  waiter-stalled m k w = (w.0, w.1)

  -- from m a waits step to k, and back from there
  unfit-by : (m k : ℕ) → Waits p m k → Star (Step p φ) k m → Unfit p φ
  unfit-by m k w (inl e) = record { a = m; l = []; walk = (inl (rw e at w), tt); some-waits = inl (rw e at w) }
  unfit-by m k w (inr v) = record { a = m; l = k ∷ v.0; walk = (inl w, v.1); some-waits = inl w }

  -- m in A, k in B
  net-step : (m k A B : ℕ) → m < p.count → k < p.count → φ m ≡ A → φ k ≡ B → Stalled p k → Leads p φ A B → Star (Step p φ) m k
  net-step m k A B hm hk eA eB s r =
      let h = within r.m r.k r.waits in
      star-trans m r.m k
      (hop m r.m hm h.0 (eA ∙ sym r.in-A) (waiter-stalled r.m r.k r.waits))
      (inr (plus-star r.m r.k k (plus_one r.m r.k (inl r.waits)) (hop r.k k h.1 hk (r.in-B ∙ sym eB) s)))

  net-walk : (m k A B : ℕ) (L : List ℕ) → m < p.count → k < p.count → φ m ≡ A → φ k ≡ B → Stalled p k → Chain (Leads p φ) A (L ++ B ∷ []) → Star (Step p φ) m k
  net-walk m k A B [] hm hk eA eB s w = net-step m k A B hm hk eA eB s w.0
  net-walk m k A B (C ∷ L) hm hk eA eB s w =
      let r = w.0 in
      let h = within r.m r.k r.waits in
      star-trans m r.m k
      (hop m r.m hm h.0 (eA ∙ sym r.in-A) (waiter-stalled r.m r.k r.waits))
      (inr (plus-star r.m r.k k (plus_one r.m r.k (inl r.waits)) (net-walk r.k k C B L h.1 hk r.in-B eB s w.1)))

  net-unfit : (A : ℕ) (L : List ℕ) → Chain (Leads p φ) A (L ++ A ∷ []) → Unfit p φ
  net-unfit A [] w =
      let r = w.0 in
      let h = within r.m r.k r.waits in
      unfit-by r.m r.k r.waits (hop r.k r.m h.1 h.0 (r.in-B ∙ sym r.in-A) (waiter-stalled r.m r.k r.waits))
  net-unfit A (C ∷ L) w =
      let r = w.0 in
      let h = within r.m r.k r.waits in
      unfit-by r.m r.k r.waits (net-walk r.k r.m C A L h.1 h.0 r.in-B r.in-A (waiter-stalled r.m r.k r.waits) w.1)

  -- T1: for every mapping, judging by the networks alone gives the same answer as the walks over single messages.
  pub networks-alone : Unfit p φ ↔ NetUnfit p φ
  networks-alone = (λ u. (φ u.a, waits-leads u.a u.a u.l u.walk u.some-waits), λ v. net-unfit v.0 v.1.0 v.1.1)

-- T2: if the waits have a cycle, every mapping is unfit.
cycle-go : (p : Relations) (φ : Mapping) (a : ℕ) (l : List ℕ) → Chain (Waits p) a (l ++ a ∷ []) → Somewhere (Waits p) a (l ++ a ∷ [])
cycle-go p φ a [] w = inl w.0
cycle-go p φ a (b ∷ l) w = inl w.0

pub cycle-unfit : (p : Relations) → WaitsCycle p → (φ : Mapping) → Unfit p φ
cycle-unfit p c φ =
    let a = c.0 in
    let l = c.1.0 in
    record { a = a; l = l; walk = chain-map (λ m k. inl) a (l ++ a ∷ []) c.1.1; some-waits = cycle-go p φ a l c.1.1 }
