-- A closed walk that is longer than there are messages can be cut short; so the shown cycle is found among finitely many lists.
use Prim.Native.Nat.{ℕ, zero, suc, ◌<◌, ◌≤◌}
use mathlib.Core.Path.{◌≡◌, refl, sym, subst, ap, ◌∙◌}
use mathlib.Core.Logic.{◌⊎◌, inl, inr}
use mathlib.Core.List.{List, [], ◌∷◌, ◌++◌, append_assoc}
use native.Mathlib.Decide.{ℕ_discrete, dec_le, dec_lt}
use native.Mathlib.Omega.{arith}
use lib.ListN.{length, length-append}
use Rattle.rules.specs.Lists.{◌∈◌, ◌≼◌, Distinct}
use Rattle.rules.specs.Walks.{Rel, Chain, Begins}
use Rattle.rules.specs.Plan.{Closed, Shown}
use Rattle.rules.proofs.Pigeon.{in?, at_most}
use Rattle.rules.proofs.Search.{First, None, first_below}

-- ---- a list with a number that stands in it twice

pub record Repeat (l : List ℕ) : Type 0 where
  pub x : ℕ
  pub u : List ℕ
  pub v : List ℕ
  pub w : List ℕ
  pub is : l ≡ u ++ x ∷ (v ++ x ∷ w)

in_split : (x : ℕ) (l : List ℕ) → x ∈ l → (v : List ℕ) × (w : List ℕ) × (l ≡ v ++ x ∷ w)
in_split x [] h = absurd h
in_split x (y ∷ l) (inl e) = ([], l, ap (λ (z : ℕ). z ∷ l) (sym e))
in_split x (y ∷ l) (inr h) = let r = in_split x l h in (y ∷ r.0, r.1, ap (λ (k : List ℕ). y ∷ k) r.2)

pub distinct-or : (l : List ℕ) → Distinct l ⊎ Repeat l
distinct-or [] = inl tt
distinct-or (x ∷ l) = go (in? x l) (distinct-or l)
  where
    go : Dec (x ∈ l) → Distinct l ⊎ Repeat l → Distinct (x ∷ l) ⊎ Repeat (x ∷ l)
    go (yes h) r = let s = in_split x l h in inr (record { x = x; u = []; v = s.0; w = s.1; is = ap (λ (k : List ℕ). x ∷ k) s.2 })
    go (no g) (inl d) = inl (g, d)
    go (no g) (inr r) = inr (record { x = r.x; u = x ∷ r.u; v = r.v; w = r.w; is = ap (λ (k : List ℕ). x ∷ k) r.is })

-- ---- cutting a chain

module _ (R : Rel) where
  pub chain_left : (a b : ℕ) (l k : List ℕ) → Chain R a (l ++ b ∷ k) → Chain R a (l ++ b ∷ [])
  chain_left a b [] k c = (c.0, tt)
  chain_left a b (x ∷ l) k c = (c.0, chain_left x b l k c.1)

  pub chain-right : (a b : ℕ) (l k : List ℕ) → Chain R a (l ++ b ∷ k) → Chain R b k
  chain-right a b [] k c = c.1
  chain-right a b (x ∷ l) k c = chain-right x b l k c.1

  pub chain-join : (a b : ℕ) (l k : List ℕ) → Chain R a (l ++ b ∷ []) → Chain R b k → Chain R a (l ++ b ∷ k)
  chain-join a b [] k c d = (c.0, d)
  chain-join a b (x ∷ l) k c d = (c.0, chain-join x b l k c.1 d)

  pub begins-same : (a b : ℕ) (l k h : List ℕ) → Begins R a (l ++ b ∷ k) → Begins R a (l ++ b ∷ h)
  begins-same a b [] k h r = r
  begins-same a b (x ∷ l) k h r = r

abbrev pub All< : ℕ → List ℕ → Type 0
All< n [] = Unit {0}
All< n (x ∷ l) = (x < n) × All< n l

all_in : (n : ℕ) (l : List ℕ) → All< n l → (x : ℕ) → x ∈ l → x < n
all_in n [] a x h = absurd h
all_in n (y ∷ l) a x (inl e) = rw e a.0
all_in n (y ∷ l) a x (inr h) = all_in n l a.1 x h

module _ (W S : Rel) where
  -- a closed walk with a number that stands in it twice can be cut short
  cut : (u : List ℕ) (x : ℕ) (v w : List ℕ) → Closed W S (u ++ x ∷ (v ++ x ∷ w)) → (m : List ℕ) × Closed W S m × (length m < length (u ++ x ∷ (v ++ x ∷ w)))
  cut [] x v w c =
      let e = append_assoc v (x ∷ w) (x ∷ []) in
      (x ∷ v, (begins-same W x x v (w ++ x ∷ []) [] (rw e at c.0), chain_left S x x v (w ++ x ∷ []) (rw e at c.1)), simp length-append (omega arith))
  cut (a ∷ u) x v w c =
      let e = append_assoc u (x ∷ (v ++ x ∷ w)) (a ∷ []) in
      let f = append_assoc v (x ∷ w) (a ∷ []) in
      let g = append_assoc u (x ∷ w) (a ∷ []) in
      let d : Chain S a (u ++ x ∷ (v ++ x ∷ w ++ a ∷ [])) = rw e at c.1 in
      let h : Chain S x (v ++ x ∷ (w ++ a ∷ [])) = rw f at (chain-right S a x u (v ++ x ∷ w ++ a ∷ []) d) in (
        a ∷ (u ++ x ∷ w),
        (
          rw g (begins-same W a x u (v ++ x ∷ w ++ a ∷ []) (w ++ a ∷ []) (rw e at c.0)),
          rw g (chain-join S a x u (w ++ a ∷ []) (chain_left S a x u (v ++ x ∷ w ++ a ∷ []) d) (chain-right S x x v (w ++ a ∷ []) h)),
        ),
        simp length-append (omega arith),
      )

-- ---- the first list in dictionary order, among the lists of L numbers below n

pub record FirstList (n L : ℕ) (P : List ℕ → Type 0) : Type 0 where
  pub list : List ℕ
  pub long : length list ≡ L
  pub small : All< n list
  pub passes : P list
  pub first : (m : List ℕ) → length m ≡ L → All< n m → P m → list ≼ m

abbrev NoList : (n L : ℕ) (P : List ℕ → Type 0) → Type 0
NoList n L P = (m : List ℕ) → length m ≡ L → All< n m → ¬ P m

to-dec : (n L : ℕ) (P : List ℕ → Type 0) → FirstList n L P ⊎ NoList n L P → Dec (FirstList n L P)
to-dec n L P (inl f) = yes f
to-dec n L P (inr g) = no (λ f. g f.list f.long f.small f.passes)

by-no : (n L : ℕ) (P : List ℕ → Type 0) → FirstList n L P ⊎ NoList n L P → ¬ FirstList n L P → NoList n L P
by-no n L P (inl f) g = absurd (g f)
by-no n L P (inr f) g = f

pub compare : (x y : ℕ) → (x < y) ⊎ ((x ≡ y) ⊎ (y < x))
compare x y = go (ℕ_discrete x y) (dec_lt x y)
  where
    go : Dec (x ≡ y) → Dec (x < y) → (x < y) ⊎ ((x ≡ y) ⊎ (y < x))
    go (yes e) d = inr (inl e)
    go (no e) (yes l) = inl l
    go (no e) (no l) = inr (inr (omega arith))

module _ (n L : ℕ) (P : List ℕ → Type 0) where
  -- the lists that begin with x
  abbrev From : ℕ → Type 0
  From x = FirstList n L (λ l. P (x ∷ l))

  abbrev NoFrom : ℕ → Type 0
  NoFrom x = NoList n L (λ l. P (x ∷ l))

  first_found : ((x : ℕ) → From x ⊎ NoFrom x) → First From n → FirstList n (suc L) P
  first_found rec t = record { list = x ∷ f.list; long = ap suc f.long; small = (t.1, f.small); passes = f.passes; first = first }
    where
      x : ℕ
      x = t.0

      f : From x
      f = t.2

      first : (m : List ℕ) → length m ≡ suc L → All< n m → P m → (x ∷ f.list) ≼ m
      first [] e a q = absurd (omega arith)
      first (y ∷ m) e a q = go (compare x y)
        where
          go : (x < y) ⊎ ((x ≡ y) ⊎ (y < x)) → (x < y) ⊎ ((x ≡ y) × (f.list ≼ m))
          go (inl l) = inl l
          go (inr (inl s)) = inr (s, f.first m (omega arith) a.1 (subst (λ (z : ℕ). P (z ∷ m)) (sym s) q))
          go (inr (inr l)) = absurd (by-no n L (λ l. P (y ∷ l)) (rec y) (t.3 y l) m (omega arith) a.1 q)

  first-cons : ((x : ℕ) → From x ⊎ NoFrom x) → First From n ⊎ None From n → FirstList n (suc L) P ⊎ NoList n (suc L) P
  first-cons rec (inl f) = inl (first_found rec f)
  first-cons rec (inr g) = inr none
    where
      none : NoList n (suc L) P
      none [] e a q = absurd (omega arith)
      none (x ∷ m) e a q = by-no n L (λ l. P (x ∷ l)) (rec x) (g x a.0) m (omega arith) a.1 q

first-list : (n L : ℕ) (P : List ℕ → Type 0) → ((l : List ℕ) → Dec (P l)) → FirstList n L P ⊎ NoList n L P
first-list n zero P d = go (d [])
  where
    only : (Q : List ℕ → Type 0) (m : List ℕ) → length m ≡ 0 → Q m → Q []
    only Q [] e q = q
    only Q (x ∷ m) e q = absurd (omega arith)

    go : Dec (P []) → FirstList n zero P ⊎ NoList n zero P
    go (yes q) = inl (record { list = []; long = refl; small = tt; passes = q; first = λ m e a r. tt })
    go (no g) = inr (λ m e a q. g (only P m e q))
first-list n (suc L) P d =
    let rec : (x : ℕ) → From n L P x ⊎ NoFrom n L P x = λ x. first-list n L (λ l. P (x ∷ l)) (λ l. d (x ∷ l)) in
    first-cons n L P rec (first_below (From n L P) (λ x. to-dec n L (λ l. P (x ∷ l)) (rec x)) n)

-- ---- the shown cycle exists, or there is no closed walk

module _ (R : Rel) (R? : (a b : ℕ) → Dec (R a b)) where
  pub chain? : (a : ℕ) (l : List ℕ) → Dec (Chain R a l)
  chain? a [] = yes tt
  chain? a (b ∷ l) = go (R? a b) (chain? b l)
    where
      go : Dec (R a b) → Dec (Chain R b l) → Dec (R a b × Chain R b l)
      go (yes r) (yes c) = yes (r, c)
      go (yes r) (no g) = no (λ t. g t.1)
      go (no g) d = no (λ t. g t.0)

  pub begins? : (a : ℕ) (l : List ℕ) → Dec (Begins R a l)
  begins? a [] = no (λ h. h)
  begins? a (b ∷ l) = R? a b

module _ (n : ℕ) (W S : Rel) (within : (a b : ℕ) → S a b → (a < n) × (b < n)) where
  chain-small : (a b : ℕ) (l : List ℕ) → Chain S a (l ++ b ∷ []) → All< n (a ∷ l)
  chain-small a b [] c = ((within a b c.0).0, tt)
  chain-small a b (x ∷ l) c = ((within a x c.0).0, chain-small x b l c.1)

  pub closed-small : (ms : List ℕ) → Closed W S ms → All< n ms
  closed-small [] c = tt
  closed-small (a ∷ l) c = chain-small a a l c.1

module _ (n : ℕ) (W S : Rel) (W? : (a b : ℕ) → Dec (W a b)) (S? : (a b : ℕ) → Dec (S a b)) (within : (a b : ℕ) → S a b → (a < n) × (b < n)) where
  closed? : (ms : List ℕ) → Dec (Closed W S ms)
  closed? [] = no (λ h. h)
  closed? (a ∷ l) = go (begins? W W? a (l ++ a ∷ [])) (chain? S S? a (l ++ a ∷ []))
    where
      go : Dec (Begins W a (l ++ a ∷ [])) → Dec (Chain S a (l ++ a ∷ [])) → Dec (Begins W a (l ++ a ∷ []) × Chain S a (l ++ a ∷ []))
      go (yes r) (yes c) = yes (r, c)
      go (yes r) (no g) = no (λ t. g t.1)
      go (no g) d = no (λ t. g t.0)

  abbrev At : ℕ → Type 0
  At L = FirstList n L (Closed W S)

  -- no closed walk of L messages
  none-at : (L : ℕ) → ¬ At L → (ms : List ℕ) → length ms ≡ L → ¬ Closed W S ms
  none-at L g ms e c = by-no n L (Closed W S) (first-list n L (Closed W S) closed?) g ms e (closed-small n W S within ms c) c

  shorter : (ms : List ℕ) → n < length ms → Closed W S ms → (m : List ℕ) × Closed W S m × (length m < length ms)
  shorter ms h c = go (distinct-or ms)
    where
      go : Distinct ms ⊎ Repeat ms → (m : List ℕ) × Closed W S m × (length m < length ms)
      go (inl d) = absurd (omega (arith, at_most n ms d (all_in n ms (closed-small n W S within ms c))))
      go (inr r) =
          let t = cut W S r.u r.x r.v r.w (subst (Closed W S) r.is c) in
          (t.0, t.1, subst (λ (l : List ℕ). length t.0 < length l) (sym r.is) t.2)

  none-long : ((L : ℕ) → L < suc n → ¬ At L) → (k : ℕ) (ms : List ℕ) → length ms ≤ k → ¬ Closed W S ms
  none-long g zero [] h c = c
  none-long g zero (a ∷ l) h c = absurd (omega arith)
  none-long g (suc k) ms h c = go (none-long g k) (dec_le (length ms) n)
    where
      go : ((m : List ℕ) → length m ≤ k → ¬ Closed W S m) → Dec (length ms ≤ n) → ⊥
      go f (yes l) = none-at (length ms) (g (length ms) (omega arith)) ms refl c
      go f (no l) = let t = shorter ms (omega arith) c in f t.0 (omega (arith, t.2)) t.1

  pub shown? : ((ms : List ℕ) × Shown W S ms × (length ms ≤ n)) ⊎ ((ms : List ℕ) → ¬ Closed W S ms)
  shown? = go (first_below At (λ L. to-dec n L (Closed W S) (first-list n L (Closed W S) closed?)) (suc n))
    where
      go : First At (suc n) ⊎ None At (suc n) → ((ms : List ℕ) × Shown W S ms × (length ms ≤ n)) ⊎ ((ms : List ℕ) → ¬ Closed W S ms)
      go (inr g) = inr (λ ms. none-long g (length ms) ms (omega arith))
      go (inl t) = inl (
        t.2.list,
        record {
          closed = t.2.passes;
          shortest = λ l c. at_least l c (dec_le (length t.2.list) (length l));
          first = λ l c e. t.2.first l (e ∙ t.2.long) (closed-small n W S within l c) c;
        },
        omega (arith, t.1, t.2.long),
      )
        where
          at_least : (l : List ℕ) → Closed W S l → Dec (length t.2.list ≤ length l) → length t.2.list ≤ length l
          at_least l c (yes h) = h
          at_least l c (no h) = absurd (none-at (length l) (t.3 (length l) (omega (arith, t.2.long))) l refl c)
