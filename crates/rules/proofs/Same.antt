-- Relations that hold of the same pairs give the same answers.
use Prim.Native.Nat.{ℕ, zero, suc}
use mathlib.Core.Logic.{inl, inr, ◌↔◌}
use mathlib.Core.List.{List, [], ◌∷◌, ◌++◌}
use Rattle.rules.specs.Walks.{Rel, Chain, Begins}
use Rattle.rules.specs.Plan.{Height, Counts, Pairs, Closed, Shown}
use Rattle.rules.proofs.Chains.{chain-map}

pub counts-map : (P Q : ℕ → Type 0) → ((j : ℕ) → P j ↔ Q j) → (n k : ℕ) → Counts P n k → Counts Q n k
counts-map P Q f zero k e = e
counts-map P Q f (suc n) k (inl t) = inl (t.0, (f n).0 t.1, counts-map P Q f n t.0 t.2, t.3)
counts-map P Q f (suc n) k (inr t) = inr (λ q. t.0 ((f n).1 q), counts-map P Q f n k t.1)

module _ (R R' : Rel) (f : (a b : ℕ) → R a b ↔ R' a b) where
  there : (a : ℕ) (l : List ℕ) → Chain R a l → Chain R' a l
  there = chain-map (λ a b. (f a b).0)

  back : (a : ℕ) (l : List ℕ) → Chain R' a l → Chain R a l
  back = chain-map (λ a b. (f a b).1)

  pub height-same : (m h : ℕ) → Height R m h → Height R' m h
  height-same m h t = record { rest = t.rest; chain = there m t.rest t.chain; steps = t.steps; longest = λ l c. t.longest l (back m l c) }

  pub pairs-same : (n b k : ℕ) → Pairs R n b k → Pairs R' n b k
  pairs-same n zero k e = e
  pairs-same n (suc b) k t = (t.0, t.1, counts-map (R b) (R' b) (f b) n t.0 t.2, pairs-same n b t.1 t.3, t.4)

module _ (W W' S S' : Rel) (f : (a b : ℕ) → W a b ↔ W' a b) (g : (a b : ℕ) → S a b ↔ S' a b) where
  begins-same : (R R' : Rel) → ((a b : ℕ) → R a b → R' a b) → (a : ℕ) (l : List ℕ) → Begins R a l → Begins R' a l
  begins-same R R' h a [] b = b
  begins-same R R' h a (x ∷ l) b = h a x b

  closed-there : (l : List ℕ) → Closed W S l → Closed W' S' l
  closed-there [] c = c
  closed-there (a ∷ l) c = (begins-same W W' (λ a b. (f a b).0) a (l ++ a ∷ []) c.0, chain-map (λ a b. (g a b).0) a (l ++ a ∷ []) c.1)

  closed-back : (l : List ℕ) → Closed W' S' l → Closed W S l
  closed-back [] c = c
  closed-back (a ∷ l) c = (begins-same W' W (λ a b. (f a b).1) a (l ++ a ∷ []) c.0, chain-map (λ a b. (g a b).1) a (l ++ a ∷ []) c.1)

  pub shown-same : (ms : List ℕ) → Shown W S ms → Shown W' S' ms
  shown-same ms t = record {
    closed = closed-there ms t.closed;
    shortest = λ l c. t.shortest l (closed-back l c);
    first = λ l c e. t.first l (closed-back l c) e;
  }
