-- The shown cycle, chosen message by message: what a search may keep, and that its choices give the shown cycle.
use Prim.Native.Nat.{ℕ, zero, suc, ◌-◌, ◌<◌, ◌≤◌}
use mathlib.Core.Path.{◌≡◌, refl, sym, subst, ap, ◌∙◌}
use mathlib.Core.Logic.{◌⊎◌, inl, inr}
use mathlib.Core.List.{List, [], ◌∷◌, ◌++◌}
use native.Mathlib.Nat.{sub-zero, suc-sub-suc}
use native.Mathlib.Decide.{ℕ_discrete}
use native.Mathlib.Omega.{arith}
use lib.ListN.{length, get_or, take, length-append, get_or-append}
use lib.Seq.{get_or-take}
use Rattle.rules.specs.Lists.{◌≼◌}
use Rattle.rules.specs.Walks.{Rel, Chain, Begins, Exactly}
use Rattle.rules.specs.Plan.{Closed, Shown}

-- ---- chains and dictionary order by index

pub chain-at : (R : Rel) (a : ℕ) (l : List ℕ) → Chain R a l → (i : ℕ) → i < length l → R (get_or (a ∷ l) i 0) (get_or l i 0)
chain-at R a [] c i h = absurd (omega arith)
chain-at R a (b ∷ l) c zero h = c.0
chain-at R a (b ∷ l) c (suc i) h = chain-at R b l c.1 i (omega arith)

pub at-chain : (R : Rel) (a : ℕ) (l : List ℕ) → ((i : ℕ) → i < length l → R (get_or (a ∷ l) i 0) (get_or l i 0)) → Chain R a l
at-chain R a [] f = tt
at-chain R a (b ∷ l) f = (f 0 (omega arith), at-chain R b l (λ i h. f (suc i) (omega arith)))

-- l is first if, wherever it agrees with m up to i, it has no greater number at i
pub dictionary-at : (l m : List ℕ) → length l ≡ length m → ((i : ℕ) → i < length l → take i l ≡ take i m → get_or l i 0 ≤ get_or m i 0) → l ≼ m
dictionary-at [] m e f = tt
dictionary-at (a ∷ l) [] e f = absurd (omega arith)
dictionary-at (a ∷ l) (b ∷ m) e f = go (dictionary-at l m (omega arith)) (ℕ_discrete a b)
  where
    go : (((i : ℕ) → i < length l → take i l ≡ take i m → get_or l i 0 ≤ get_or m i 0) → l ≼ m) → Dec (a ≡ b) → (a < b) ⊎ ((a ≡ b) × (l ≼ m))
    go ih (yes q) = inr (q, ih (λ i h t. f (suc i) (omega arith) (rw (q, t) refl)))
    go ih (no d) = inl (omega (arith, f 0 (omega arith) refl))

-- ---- exactly k steps: what a search for the shortest cycle keeps a row of for each k

pub chain-exactly : (R : Rel) (a x : ℕ) (l : List ℕ) → Chain R a (l ++ x ∷ []) → Exactly R (suc (length l)) a x
chain-exactly R a x [] c = (x, c.0, refl)
chain-exactly R a x (b ∷ l) c = (b, c.0, chain-exactly R b x l c.1)

-- ---- the shown cycle, chosen message by message

-- from any place of a closed walk on, the start is reached in exactly the steps that are left
pub rest-exactly : (S : Rel) (a x : ℕ) (l : List ℕ) → Chain S a (l ++ x ∷ []) → (i : ℕ) → i ≤ length l → Exactly S (suc (length l - i)) (get_or (a ∷ l) i 0) x
rest-exactly S a x l c zero h = rw (sub-zero (length l)) (chain-exactly S a x l c)
rest-exactly S a x [] c (suc i) h = absurd (omega arith)
rest-exactly S a x (b ∷ l) c (suc i) h = rw (suc-sub-suc (length l) i) (rest-exactly S b x l c.1 i (omega arith))

-- step j of a closed walk: the first is one of W
abbrev pub StepAt : Rel → Rel → ℕ → Rel
StepAt W S zero = W
StepAt W S (suc j) = S

module _ (W S : Rel) (also : (a b : ℕ) → W a b → S a b) where
  step_is : (j a b : ℕ) → StepAt W S j a b → S a b
  step_is zero a b s = also a b s
  step_is (suc j) a b s = s

  chain_snoc : (a x : ℕ) (l : List ℕ) → Chain S a l → S (get_or (a ∷ l) (length l) 0) x → Chain S a (l ++ x ∷ [])
  chain_snoc a x [] c s = (s, tt)
  chain_snoc a x (b ∷ l) c s = (c.0, chain_snoc b x l c.1 s)

  begins-snoc : (a x : ℕ) (l : List ℕ) → ((j : ℕ) → j < length l → StepAt W S j (get_or (a ∷ l) j 0) (get_or l j 0)) → StepAt W S (length l) (get_or (a ∷ l) (length l) 0) x → Begins W a (l ++ x ∷ [])
  begins-snoc a x [] f s = s
  begins-snoc a x (b ∷ l) f s = f 0 (omega arith)

  -- what the closed walk m has at j, when it agrees with ours up to j, was a candidate
  candidate : (m : List ℕ) → Closed W S m → (j : ℕ) → suc j < length m → StepAt W S j (get_or m j 0) (get_or m (suc j) 0) × Exactly S (length m - suc j) (get_or m (suc j) 0) (get_or m 0 0)
  candidate [] c j h = absurd c
  candidate (a ∷ []) c j h = absurd (omega arith)
  candidate (a ∷ (b ∷ k)) c j h = (stepped j h, rw (suc-sub-suc (suc (length k)) j, left) (rest-exactly S a a (b ∷ k) c.1 (suc j) (omega arith)))
    where
      left : suc (length k) - j ≡ suc (suc (length k) - suc j)
      left = omega arith

      stepped : (j : ℕ) → suc j < suc (suc (length k)) → StepAt W S j (get_or (a ∷ (b ∷ k)) j 0) (get_or (b ∷ k) j 0)
      stepped zero h = c.0
      stepped (suc j) h = subst (S (get_or (b ∷ k) j 0)) (get_or-append k (a ∷ []) 0 j (omega arith))
          (subst (λ (y : ℕ). S y (get_or (k ++ a ∷ []) j 0)) (get_or-append (b ∷ k) (a ∷ []) 0 j (omega arith)) (chain-at S b (k ++ a ∷ []) c.1.1 j (simp length-append (omega arith))))

  -- lists that agree up to i agree at each place before
  agree : (l m : List ℕ) (i j : ℕ) → take i l ≡ take i m → j < i → get_or l j 0 ≡ get_or m j 0
  agree l m i j e h = sym (get_or-take i l j 0 h) ∙ ap (λ (k : List ℕ). get_or k j 0) e ∙ get_or-take i m j 0 h

  module _ (x : ℕ) (l : List ℕ)
      (step : (j : ℕ) → j < length l → StepAt W S j (get_or (x ∷ l) j 0) (get_or l j 0))
      (last : StepAt W S (length l) (get_or (x ∷ l) (length l) 0) x)
      (least : (j : ℕ) → j < length l → (z : ℕ) → StepAt W S j (get_or (x ∷ l) j 0) z → Exactly S (length l - j) z x → get_or l j 0 ≤ z)
      (shortest : (m : List ℕ) → Closed W S m → suc (length l) ≤ length m)
      (start : (m : List ℕ) → Closed W S m → length m ≡ suc (length l) → x ≤ get_or m 0 0) where
    no-greater : (m : List ℕ) → Closed W S m → length m ≡ suc (length l) → (i : ℕ) → i < suc (length l) → take i (x ∷ l) ≡ take i m → get_or (x ∷ l) i 0 ≤ get_or m i 0
    no-greater m c e zero h t = start m c e
    no-greater m c e (suc j) h t =
        let q = candidate m c j (omega arith) in
        let at_j : get_or m j 0 ≡ get_or (x ∷ l) j 0 = sym (agree (x ∷ l) m (suc j) j t (omega arith)) in
        let at-0 : get_or m 0 0 ≡ x = sym (agree (x ∷ l) m (suc j) 0 t (omega arith)) in
        let left : length m - suc j ≡ length l - j = omega arith in
        least j (omega arith) (get_or m (suc j) 0) (subst (λ (y : ℕ). StepAt W S j y (get_or m (suc j) 0)) at_j q.0)
        (subst (λ (k : ℕ). Exactly S k (get_or m (suc j) 0) x) left (subst (λ (y : ℕ). Exactly S (length m - suc j) (get_or m (suc j) 0) y) at-0 q.1))

    pub picked-shown : Shown W S (x ∷ l)
    picked-shown = record {
      closed = (begins-snoc x x l step last, chain_snoc x x l (at-chain S x l (λ i h. step_is i (get_or (x ∷ l) i 0) (get_or l i 0) (step i h))) (step_is (length l) (get_or (x ∷ l) (length l) 0) x last));
      shortest = shortest;
      first = λ m c e. dictionary-at (x ∷ l) m (sym e) (no-greater m c e);
    }
