-- More stalls pairs with the same causes: more waits and more queues steps, so no mapping becomes fit.
use Prim.Native.Nat.{ℕ, ◌<◌}
use mathlib.Core.Path.{refl, sym, subst}
use mathlib.Core.Logic.{inl, inr}
use mathlib.Core.List.{List, [], ◌∷◌, ◌++◌}
use Rattle.rules.specs.Walks.{Rel, Somewhere}
use Rattle.rules.specs.Rules.{Relations, Mapping, Waits, Queues, Step, Unfit}
use Rattle.rules.specs.Plan.{Uses}
use Rattle.rules.specs.Promises.{Stricter, NeverFewer, StillFit, OldPairsRemain, OldEntriesRemain}
use Rattle.rules.proofs.Chains.{chain-map, plus-map}

somewhere-map : (R S : Rel) → ((a b : ℕ) → R a b → S a b) → (a : ℕ) (l : List ℕ) → Somewhere R a l → Somewhere S a l
somewhere-map R S f a [] t = t
somewhere-map R S f a (b ∷ l) (inl r) = inl (f a b r)
somewhere-map R S f a (b ∷ l) (inr t) = inr (somewhere-map R S f b l t)

module _ (p q : Relations) (s : Stricter p q) where
  more-waits : (b c : ℕ) → Waits p b c → Waits q b c
  more-waits b c w = (w.0, s.more_stalls w.0 b w.1, plus-map (λ x y r. (s.same_causes x y).1 r) w.0 c w.2)

  more-queues : (φ : Mapping) (m k : ℕ) → Queues p φ m k → Queues q φ m k
  more-queues φ m k t = record {
    m-message = subst (λ (n : ℕ). m < n) (sym s.same_count) t.m-message;
    k-message = subst (λ (n : ℕ). k < n) (sym s.same_count) t.k-message;
    differ = t.differ;
    share = t.share;
    stalled = (t.stalled.0, s.more_stalls t.stalled.0 k t.stalled.1);
  }

  more-steps : (φ : Mapping) (m k : ℕ) → Step p φ m k → Step q φ m k
  more-steps φ m k (inl w) = inl (more-waits m k w)
  more-steps φ m k (inr t) = inr (more-queues φ m k t)

  more-unfit : (φ : Mapping) → Unfit p φ → Unfit q φ
  more-unfit φ u = record {
    a = u.a;
    l = u.l;
    walk = chain-map (more-steps φ) u.a (u.l ++ u.a ∷ []) u.walk;
    some-waits = somewhere-map (Waits p) (Waits q) more-waits u.a (u.l ++ u.a ∷ []) u.some-waits;
  }

pub still-fit : StillFit
still-fit p q s φ f u = f (more-unfit p q s φ u)

pub never-fewer : NeverFewer
never-fewer p q s = (
  λ j k a b. a.least b.mapping k (still-fit p q s b.mapping b.fit) (subst (λ (n : ℕ). Uses n b.mapping k) s.same_count b.uses),
  λ t. (t.0, plus-map (more-waits p q s) t.0 t.0 t.1),
)

-- ---- C-12

pub old-pairs-remain : OldPairsRemain
old-pairs-remain transient cells n = record {
  same_count = refl;
  same_causes = λ a b. (λ t. t, λ t. t);
  more_stalls = λ a b t. (t.0, t.1, (t.0, inl refl, t.2));
}

pub old-entries-remain : OldEntriesRemain
old-entries-remain transient cells c t = (t.0, t.1, λ a h. t.2 a (c.state, inl refl, h))
