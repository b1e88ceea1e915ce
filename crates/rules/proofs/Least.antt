-- The printed mapping is fit and uses as many networks as the longest waits chain has messages; no fit mapping uses fewer.
use Prim.Native.Nat.{ℕ, suc, ◌<◌, ◌≤◌}
use mathlib.Core.Path.{◌≡◌, ap, ◌∙◌}
use mathlib.Core.Logic.{inl, inr}
use mathlib.Core.List.{List, [], ◌∷◌, ◌++◌, map}
use native.Mathlib.Nat.{lt_irrefl}
use native.Mathlib.Decide.{ℕ_discrete}
use native.Mathlib.Omega.{arith}
use lib.ListN.{length, length-map}
use Rattle.rules.specs.Lists.{◌∈◌, Distinct}
use Rattle.rules.specs.Walks.{Chain, Plus}
use Rattle.rules.specs.Rules.{Relations, Mapping, Waits, Fit, Leads}
use Rattle.rules.specs.Plan.{Uses, LeastCount, Printed, LongestChain}
use Rattle.rules.proofs.Chains.{plus_one, plus-cons}
use Rattle.rules.proofs.Networks.{networks-alone, lead}
use Rattle.rules.proofs.Pigeon.{pigeon, below, below_length, below_in, in-below, below-distinct, in_map}

module _ (p : Relations) (within : (m k : ℕ) → Waits p m k → (m < p.count) × (k < p.count)) where
  module _ (φ : Mapping) (printed : Printed p φ) where
    -- who waits is higher
    higher : (m k : ℕ) → Waits p m k → φ k < φ m
    higher m k w =
        let h = within m k w in
        let t = printed k h.1 in
        omega (arith, (printed m h.0).longest (k ∷ t.rest) (w, t.chain), t.steps)

    lower : (A B : ℕ) (L : List ℕ) → Chain (Leads p φ) A (L ++ B ∷ []) → B < A
    lower A B [] w = let r = w.0 in omega (arith, higher r.m r.k r.waits, r.in-A, r.in-B)
    lower A B (C ∷ L) w = let r = w.0 in omega (arith, higher r.m r.k r.waits, r.in-A, r.in-B, lower C B L w.1)

    pub printed-fit : Fit p φ
    printed-fit u =
        let v = (networks-alone p within φ).0 u in
        lt_irrefl v.0 (lower v.0 v.0 v.1.0 v.1.1)

    -- each number up to the length of a longest chain is a network of some message on it
    reached : (m : ℕ) (l : List ℕ) → m < p.count → Chain (Waits p) m l → φ m ≡ length l → (A : ℕ) → A ≤ length l → (x : ℕ) × (x < p.count) × (φ x ≡ A)
    reached m [] hm c e A h = (m, hm, omega arith)
    reached m (b ∷ l) hm c e A h = go (reached b l) (ℕ_discrete A (suc (length l)))
      where
        go : (b < p.count → Chain (Waits p) b l → φ b ≡ length l → (A : ℕ) → A ≤ length l → (x : ℕ) × (x < p.count) × (φ x ≡ A)) → Dec (A ≡ suc (length l)) → (x : ℕ) × (x < p.count) × (φ x ≡ A)
        go f (yes q) = (m, hm, omega arith)
        go f (no d) =
            let hb = (within m b c.0).1 in
            f hb c.1 (omega (arith, (printed b hb).longest l c.1, higher m b c.0)) A (omega arith)

    pub printed-uses : (k : ℕ) → LongestChain p k → Uses p.count φ k
    printed-uses k t = record {
      networks = below k;
      distinct = below-distinct k;
      each_listed = λ m hm. let s = printed m hm in below_in k (φ m) (omega (arith, t.longest m s.rest hm s.chain, s.steps));
      each_used = λ A i.
          let s = printed t.start t.message in
          reached t.start t.rest t.message t.chain
          (omega (arith, s.longest t.rest t.chain, t.longest t.start s.rest t.message s.chain, s.steps, t.messages))
          A (omega (arith, in-below k A i, t.messages));
      number = below_length k;
    }

  module _ (φ : Mapping) (fit : Fit p φ) where
    -- on a waits chain a network leads to every later one
    later : (m : ℕ) (l : List ℕ) → Chain (Waits p) m l → (A : ℕ) → A ∈ map φ l → Plus (Leads p φ) (φ m) A
    later m [] c A i = absurd i
    later m (b ∷ l) c A (inl e) = rw e (plus_one (φ m) (φ b) (lead p within φ m b c.0))
    later m (b ∷ l) c A (inr i) = plus-cons (φ m) (φ b) A (lead p within φ m b c.0) (later b l c.1 A i)

    chain-distinct : (m : ℕ) (l : List ℕ) → Chain (Waits p) m l → Distinct (φ m ∷ map φ l)
    chain-distinct m [] c = (λ i. i, tt)
    chain-distinct m (b ∷ l) c = (λ i. fit ((networks-alone p within φ).1 (φ m, later m (b ∷ l) c (φ m) i)), chain-distinct b l c.1)

    chain-below : (m : ℕ) (l : List ℕ) → m < p.count → Chain (Waits p) m l → (x : ℕ) → x ∈ (m ∷ l) → x < p.count
    chain-below m [] hm c x (inl e) = rw e hm
    chain-below m [] hm c x (inr i) = absurd i
    chain-below m (b ∷ l) hm c x (inl e) = rw e hm
    chain-below m (b ∷ l) hm c x (inr i) = chain-below b l (within m b c.0).1 c.1 x i

    pub at_least : (m : ℕ) (l : List ℕ) → m < p.count → Chain (Waits p) m l → (j : ℕ) → Uses p.count φ j → suc (length l) ≤ j
    at_least m l hm c j u =
        let s = pigeon (map φ (m ∷ l)) u.networks (chain-distinct m l c) (λ A i. let r = in_map φ A (m ∷ l) i in rw (← r.2) (u.each_listed r.0 (chain-below m l hm c r.0 r.1))) in
        omega (arith, s, length-map l φ, u.number)

  -- T3: the printed mapping is fit and uses k networks, k the messages on the longest waits chain, and no fit mapping uses fewer.
  pub least_count : (φ : Mapping) → Printed p φ → (k : ℕ) → LongestChain p k → LeastCount p k
  least_count φ printed k t = record {
    mapping = φ;
    fit = printed-fit φ printed;
    uses = printed-uses φ printed k t;
    least = λ ψ j fit u. omega (arith, at_least ψ fit t.start t.rest t.message t.chain j u, t.messages);
  }

-- a message that is as high as any starts a longest chain
pub longest-from : (p : Relations) (φ : Mapping) → Printed p φ → (x : ℕ) → x < p.count → ((y : ℕ) → y < p.count → φ y ≤ φ x) → (k : ℕ) → suc (φ x) ≡ k → LongestChain p k
longest-from p φ printed x h top k e =
    let t = printed x h in
    record {
      start = x;
      message = h;
      rest = t.rest;
      chain = t.chain;
      messages = ap suc t.steps ∙ e;
      longest = λ m l hm c. omega (arith, (printed m hm).longest l c, top m hm, e);
    }
