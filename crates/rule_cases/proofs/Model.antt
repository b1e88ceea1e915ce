-- The rules as tests that compute, over tests `cb` and `sb` for causes and stalls.
use Prim.Native.Nat.{ℕ, zero, suc, ◌<◌, ◌≤◌}
use mathlib.Core.Path.{◌≡◌, refl, subst}
use mathlib.Core.Logic.{◌⊎◌, inl, inr, ⊎_elim}
use mathlib.Core.Bool.{Bool, true, false, not, ◌&&◌, ◌||◌}
use mathlib.Core.List.{List, [], ◌∷◌, ◌++◌}
use native.Mathlib.Decide.{dec_lt, dec_le}
use native.Mathlib.Omega.{arith}
use lib.Dec.{T, eqb, ltb, T_not}
use lib.ListN.{length, get_or}
use Rattle.rules.specs.Walks.{Rel, Chain, Begins, Plus}
use Rattle.rules.specs.Rules.{Relations, Mapping, Waits, Queues, Step, Fit}
use Rattle.rules.specs.Plan.{LeastCount, Printed, LongestChain, Closed, Shown}
use Rattle.rules.specs.Promises.{Accepted}
use Rattle.rules.proofs.Chains.{star-trans}
use Rattle.rules.proofs.Search.{via-plus, plus-via, below_suc}
use Rattle.rules.proofs.Cycle.{All<, closed-small}
use Rattle.rules.proofs.Least.{least_count}
use Rattle.rule_cases.proofs.Local.{printed-local, longest-local}
use Rattle.rules.proofs.Decided.{waits-within, turn}
use Rattle.rule_cases.proofs.Tests.{Tells, id-tells, and-tells, or-tells, not-tells, eqb_tells, ltb-tells, dict-tells, dictb, any, all, any_tells, all-tells, tab, tab-at, at, join, join-tells, choose, rounds, rounds-tell}

-- ---- rows

tab_out {ℓ} : {A : Type ℓ} (n : ℕ) (f : ℕ → A) (d : A) (i : ℕ) → n ≤ i → get_or (tab n f) i d ≡ d
tab_out zero f d i h = refl
tab_out (suc n) f d zero h = absurd (omega arith)
tab_out (suc n) f d (suc i) h = tab_out n (λ k. f (suc k)) d i (omega arith)

abbrev pub rows_of : ℕ → (ℕ → ℕ → Bool) → List (List Bool)
rows_of n f = tab n (λ a. tab n (f a))

-- n lists of truth values, made one
abbrev pub join_all : ℕ → (ℕ → List Bool) → List Bool
join_all zero g = []
join_all (suc n) g = join (g n) (join_all n g)

choose-nil : (t : Bool) (x : List Bool) (c : ℕ) → Tells (get_or (choose t x []) c false) (T t × T (get_or x c false))
choose-nil true x c = (λ u. (tt, u), λ u. u.1)
choose-nil false x c = (λ u. absurd u, λ u. absurd u.0)

module _ (n : ℕ) (R : Rel) (within : (a b : ℕ) → R a b → (a < n) × (b < n)) (f : ℕ → ℕ → Bool) (tells : (a b : ℕ) → a < n → b < n → Tells (f a b) (R a b)) where
  pub rows_tell : (a b : ℕ) → Tells (at (rows_of n f) a b) (R a b)
  rows_tell a b = go (dec_lt a n) (dec_lt b n)
    where
      go : Dec (a < n) → Dec (b < n) → Tells (at (rows_of n f) a b) (R a b)
      go (yes h) (yes k) = rw (tab-at n (λ a. tab n (f a)) [] a h, tab-at n (f a) false b k) (tells a b h k)
      go (yes h) (no k) = rw (tab-at n (λ a. tab n (f a)) [] a h, tab_out n (f a) false b (omega arith)) (λ t. absurd t, λ r. k (within a b r).1)
      go (no h) d = rw (tab_out n (λ a. tab n (f a)) [] a (omega arith)) (λ t. absurd t, λ r. h (within a b r).0)

  pub closure-tell : (a b : ℕ) → Tells (at (rounds n (rows_of n f)) a b) (Plus R a b)
  closure-tell a b =
      let s = rounds-tell R (rows_of n f) rows_tell n a b in
      (λ t. via-plus R n a b (s.0 t), λ w. s.1 (plus-via R n within a b w))

pub join-all : (n : ℕ) (g : ℕ → List Bool) (c : ℕ) → Tells (get_or (join_all n g) c false) ((a : ℕ) × (a < n) × T (get_or (g a) c false))
join-all zero g c = (λ t. absurd t, λ t. omega (arith, t.1))
join-all (suc n) g c =
    let s = join-tells (g n) (join_all n g) c in
    let ih = join-all n g c in (
      λ t. ⊎_elim (λ u. (n, omega arith, u)) (λ u. let r = ih.0 u in (r.0, omega (arith, r.1), r.2)) (s.0 t),
      λ t. s.1 (below_suc (λ a. T (get_or (g a) c false) → T (get_or (g n) c false) ⊎ T (get_or (join_all n g) c false)) n (λ a h u. inr (ih.1 (a, h, u))) (λ u. inl u) t.0 t.1 t.2),
    )

-- ---- the waits

abbrev pub waits_rows : ℕ → (ℕ → ℕ → Bool) → (ℕ → ℕ → Bool) → List (List Bool)
waits_rows n cb sb = let clos = rounds n (rows_of n cb) in tab n (λ b. join_all n (λ a. choose (sb a b) (get_or clos a []) []))

-- all lists of L numbers below n
abbrev pub every : ℕ → ℕ → (List ℕ → Bool) → Bool
every n zero f = f []
every n (suc L) f = all n (λ x. every n L (λ l. f (x ∷ l)))

pub every-tells : (n L : ℕ) (f : List ℕ → Bool) → T (every n L f) → (l : List ℕ) → length l ≡ L → All< n l → T (f l)
every-tells n zero f t [] e a = t
every-tells n zero f t (x ∷ l) e a = absurd (omega arith)
every-tells n (suc L) f t [] e a = absurd (omega arith)
every-tells n (suc L) f t (x ∷ l) e a = every-tells n L (λ k. f (x ∷ k)) (all-tells (λ y. T (every n L (λ k. f (y ∷ k)))) (λ y. every n L (λ k. f (y ∷ k))) (λ y. (λ u. u, λ u. u)) n t x a.0) l (omega arith) a.1

-- ---- closed walks

abbrev pub chainb : (ℕ → ℕ → Bool) → ℕ → List ℕ → Bool
chainb f a [] = true
chainb f a (b ∷ l) = f a b && chainb f b l

abbrev pub beginsb : (ℕ → ℕ → Bool) → ℕ → List ℕ → Bool
beginsb f a [] = false
beginsb f a (b ∷ l) = f a b

abbrev pub closedb : (ℕ → ℕ → Bool) → (ℕ → ℕ → Bool) → List ℕ → Bool
closedb w s [] = false
closedb w s (a ∷ l) = beginsb w a (l ++ a ∷ []) && chainb s a (l ++ a ∷ [])

module _ (R : Rel) (f : ℕ → ℕ → Bool) (tells : (a b : ℕ) → Tells (f a b) (R a b)) where
  chain-tells : (a : ℕ) (l : List ℕ) → Tells (chainb f a l) (Chain R a l)
  chain-tells a [] = (λ t. t, λ t. t)
  chain-tells a (b ∷ l) = and-tells (f a b) (chainb f b l) (tells a b) (chain-tells b l)

  begins-tells : (a : ℕ) (l : List ℕ) → Tells (beginsb f a l) (Begins R a l)
  begins-tells a [] = (λ t. t, λ t. t)
  begins-tells a (b ∷ l) = tells a b

abbrev pub shownb : ℕ → (ℕ → ℕ → Bool) → (ℕ → ℕ → Bool) → List ℕ → Bool
shownb n w s ms =
    closedb w s ms
    && all (length ms) (λ L. every n L (λ l. not (closedb w s l)))
    && every n (length ms) (λ l. not (closedb w s l) || dictb ms l)

pub both : (a b : Bool) → T (a && b) → T a × T b
both a b = (and-tells a b (λ t. t, λ t. t) (λ t. t, λ t. t)).0

module _ (n : ℕ) (W S : Rel) (w s : ℕ → ℕ → Bool) (w-tells : (a b : ℕ) → Tells (w a b) (W a b)) (s-tells : (a b : ℕ) → Tells (s a b) (S a b)) (within : (a b : ℕ) → S a b → (a < n) × (b < n)) where
  closed-tells : (ms : List ℕ) → Tells (closedb w s ms) (Closed W S ms)
  closed-tells [] = (λ t. t, λ t. t)
  closed-tells (a ∷ l) = and-tells (beginsb w a (l ++ a ∷ [])) (chainb s a (l ++ a ∷ [])) (begins-tells W w w-tells a (l ++ a ∷ [])) (chain-tells S s s-tells a (l ++ a ∷ []))

  pub shown-sound : (ms : List ℕ) → T (shownb n w s ms) → Shown W S ms
  shown-sound ms t = record {
    closed = (closed-tells ms).0 v.0;
    shortest = λ l c. least l c (dec_le (length ms) (length l));
    first = λ l c e. ⊎_elim (λ u. absurd (T_not (closedb w s l) u ((closed-tells l).1 c))) (λ u. (dict-tells ms l).0 u)
        ((or-tells (not (closedb w s l)) (dictb ms l) (λ u. u, λ u. u) (λ u. u, λ u. u)).0 (every-tells n (length ms) (λ l. not (closedb w s l) || dictb ms l) u.1 l e (closed-small n W S within l c)));
  }
    where
      u : T (closedb w s ms && all (length ms) (λ L. every n L (λ l. not (closedb w s l)))) × T (every n (length ms) (λ l. not (closedb w s l) || dictb ms l))
      u = both (closedb w s ms && all (length ms) (λ L. every n L (λ l. not (closedb w s l)))) (every n (length ms) (λ l. not (closedb w s l) || dictb ms l)) t

      v : T (closedb w s ms) × T (all (length ms) (λ L. every n L (λ l. not (closedb w s l))))
      v = both (closedb w s ms) (all (length ms) (λ L. every n L (λ l. not (closedb w s l)))) u.0

      least : (l : List ℕ) → Closed W S l → Dec (length ms ≤ length l) → length ms ≤ length l
      least l c (yes h) = h
      least l c (no h) =
          let q = all-tells (λ L. T (every n L (λ l. not (closedb w s l)))) (λ L. every n L (λ l. not (closedb w s l))) (λ L. (λ x. x, λ x. x)) (length ms) v.1 (length l) (omega arith) in
          absurd (T_not (closedb w s l) (every-tells n (length l) (λ l. not (closedb w s l)) q l refl (closed-small n W S within l c)) ((closed-tells l).1 c))

-- ---- the answers, over the waits' rows w

abbrev pub levelb : ℕ → (ℕ → ℕ → Bool) → Mapping → ℕ → ℕ → Bool
levelb n w φ k m = all n (λ j. not (w m j) || ltb (φ j) (φ m)) && (eqb (φ m) 0 || any n (λ j. w m j && eqb (φ m) (suc (φ j)))) && ltb (φ m) k

abbrev pub planb : ℕ → (ℕ → ℕ → Bool) → Mapping → ℕ → Bool
planb n w φ k = all n (levelb n w φ k) && any n (λ m. eqb (suc (φ m)) k)

abbrev pub stepb : ℕ → (ℕ → ℕ → Bool) → (ℕ → ℕ → Bool) → Mapping → ℕ → ℕ → Bool
stepb n sb w φ m k = w m k || (not (eqb m k) && eqb (φ m) (φ k) && any n (λ a. sb a k))

abbrev pub fitb : ℕ → (ℕ → ℕ → Bool) → (ℕ → ℕ → Bool) → Bool
fitb n w s+ = all n (λ m. all n (λ k. not (w m k && (eqb k m || s+ k m))))

module _ (p : Relations) (acc : Accepted p) (cb sb : ℕ → ℕ → Bool)
    (c-tells : (a b : ℕ) → Tells (cb a b) (p.causes a b)) (s-tells : (a b : ℕ) → Tells (sb a b) (p.stalls a b)) where
  abbrev wb : ℕ → ℕ → Bool
  wb = at (waits_rows p.count cb sb)

  pub waits-tell : (b c : ℕ) → Tells (wb b c) (Waits p b c)
  waits-tell b c = go (dec_lt b p.count)
    where
      n : ℕ
      n = p.count

      clos : List (List Bool)
      clos = rounds n (rows_of n cb)

      row : ℕ → List Bool
      row b = join_all n (λ a. choose (sb a b) (get_or clos a []) [])

      closed : (a : ℕ) → Tells (at clos a c) (Plus p.causes a c)
      closed a = closure-tell n p.causes acc.causes_messages cb (λ a b _ _. c-tells a b) a c

      go : Dec (b < n) → Tells (get_or (get_or (tab n row) b []) c false) (Waits p b c)
      go (no h) = rw (tab_out n row [] b (omega arith)) (λ t. absurd t, λ w. h (waits-within p acc b c w).0)
      go (yes h) = rw (tab-at n row [] b h) (
        λ t.
            let r = (join-all n (λ a. choose (sb a b) (get_or clos a []) []) c).0 t in
            let q = (choose-nil (sb r.0 b) (get_or clos r.0 []) c).0 r.2 in
            (r.0, (s-tells r.0 b).0 q.0, (closed r.0).0 q.1),
        λ w. (join-all n (λ a. choose (sb a b) (get_or clos a []) []) c).1 (w.0, (acc.stalls_messages w.0 b w.1).0, (choose-nil (sb w.0 b) (get_or clos w.0 []) c).1 ((s-tells w.0 b).1 w.1, (closed w.0).1 w.2)),
      )

module _ (p : Relations) (acc : Accepted p) (w : ℕ → ℕ → Bool) (w-tells : (a b : ℕ) → Tells (w a b) (Waits p a b)) (φ : Mapping) where
  plan-down : (k m : ℕ) → T (levelb p.count w φ k m) → (j : ℕ) → Waits p m j → φ j < φ m
  plan-down k m t j h =
      let n = p.count in
      let x = all n (λ j. not (w m j) || ltb (φ j) (φ m)) in
      let y = eqb (φ m) 0 || any n (λ j. w m j && eqb (φ m) (suc (φ j))) in
      let r = (both x y (both (x && y) (ltb (φ m) k) t).0).0 in
      let s = all-tells (λ j. T (not (w m j) || ltb (φ j) (φ m))) (λ j. not (w m j) || ltb (φ j) (φ m)) (λ j. id-tells (not (w m j) || ltb (φ j) (φ m))) n r j (waits-within p acc m j h).1 in
      ⊎_elim (λ u. absurd (T_not (w m j) u ((w-tells m j).1 h))) (λ u. (ltb-tells (φ j) (φ m)).0 u) ((or-tells (not (w m j)) (ltb (φ j) (φ m)) (id-tells (not (w m j))) (id-tells (ltb (φ j) (φ m)))).0 s)

  plan-by-one : (k m : ℕ) → T (levelb p.count w φ k m) → (φ m ≡ 0) ⊎ ((j : ℕ) × Waits p m j × (φ m ≡ suc (φ j)))
  plan-by-one k m t =
      let n = p.count in
      let x = all n (λ j. not (w m j) || ltb (φ j) (φ m)) in
      let y = eqb (φ m) 0 || any n (λ j. w m j && eqb (φ m) (suc (φ j))) in
      let r = (both x y (both (x && y) (ltb (φ m) k) t).0).1 in
      let a = any_tells (λ j. Waits p m j × (φ m ≡ suc (φ j))) (λ j. w m j && eqb (φ m) (suc (φ j))) (λ j. and-tells (w m j) (eqb (φ m) (suc (φ j))) (w-tells m j) (eqb_tells (φ m) (suc (φ j)))) n in
      ⊎_elim (λ e. inl e) (λ v. inr (v.0, v.2.0, v.2.1)) ((or-tells (eqb (φ m) 0) (any n (λ j. w m j && eqb (φ m) (suc (φ j)))) (eqb_tells (φ m) 0) a).0 r)

  plan-top : (k m : ℕ) → T (levelb p.count w φ k m) → φ m < k
  plan-top k m t =
      let n = p.count in
      (ltb-tells (φ m) k).0 (both (all n (λ j. not (w m j) || ltb (φ j) (φ m)) && (eqb (φ m) 0 || any n (λ j. w m j && eqb (φ m) (suc (φ j))))) (ltb (φ m) k) t).1

  pub plan-sound : (k : ℕ) → T (planb p.count w φ k) → LeastCount p k × Printed p φ
  plan-sound k t =
      let n = p.count in
      let r = both (all n (levelb n w φ k)) (any n (λ m. eqb (suc (φ m)) k)) t in
      let each = all-tells (λ m. T (levelb n w φ k m)) (levelb n w φ k) (λ m. id-tells (levelb n w φ k m)) n r.0 in
      let x = (any_tells (λ m. suc (φ m) ≡ k) (λ m. eqb (suc (φ m)) k) (λ m. eqb_tells (suc (φ m)) k) n).0 r.1 in
      let down : (m j : ℕ) → Waits p m j → φ j < φ m = λ m j h. plan-down k m (each m (waits-within p acc m j h).0) j h in
      let one : (m : ℕ) → m < n → (φ m ≡ 0) ⊎ ((j : ℕ) × Waits p m j × (φ m ≡ suc (φ j))) = λ m h. plan-by-one k m (each m h) in
      let pr = printed-local p (waits-within p acc) φ down one in
      let lc = longest-local p (waits-within p acc) φ down one x.0 x.1 (λ y h. omega (arith, plan-top k y (each y h), x.2)) in
      (least_count p (waits-within p acc) φ pr k (subst (LongestChain p) x.2 lc), pr)

  pub step-tell : (sb : ℕ → ℕ → Bool) → ((a b : ℕ) → Tells (sb a b) (p.stalls a b)) → (m k : ℕ) → m < p.count → k < p.count → Tells (stepb p.count sb w φ m k) (Step p φ m k)
  step-tell sb s-tells m k hm hk =
      let n = p.count in
      let a = any_tells (λ a. p.stalls a k) (λ a. sb a k) (λ a. s-tells a k) n in
      let q = and-tells (not (eqb m k) && eqb (φ m) (φ k)) (any n (λ a. sb a k)) (and-tells (not (eqb m k)) (eqb (φ m) (φ k)) (not-tells (eqb m k) (eqb_tells m k)) (eqb_tells (φ m) (φ k))) a in
      let queues : Tells (not (eqb m k) && eqb (φ m) (φ k) && any n (λ a. sb a k)) (Queues p φ m k) = (
        λ t. let u = q.0 t in record { m-message = hm; k-message = hk; differ = u.0.0; share = u.0.1; stalled = (u.1.0, u.1.2) },
        λ u. q.1 ((u.differ, u.share), (u.stalled.0, (acc.stalls_messages u.stalled.0 k u.stalled.1).0, u.stalled.1)),
      ) in
      or-tells (w m k) (not (eqb m k) && eqb (φ m) (φ k) && any n (λ a. sb a k)) (w-tells m k) queues

  pub fit-sound : (s+ : ℕ → ℕ → Bool) → ((a b : ℕ) → Tells (s+ a b) (Plus (Step p φ) a b)) → T (fitb p.count w s+) → Fit p φ
  fit-sound s+ tells t u =
      let n = p.count in
      let v = turn (Waits p) (Step p φ) (λ a b. inl) u.a u.a u.l u.walk u.some-waits in
      let x = v.0 in
      let y = v.1 in
      let h = waits-within p acc x y v.3 in
      let row = all-tells (λ m. T (all n (λ k. not (w m k && (eqb k m || s+ k m))))) (λ m. all n (λ k. not (w m k && (eqb k m || s+ k m)))) (λ m. id-tells (all n (λ k. not (w m k && (eqb k m || s+ k m))))) n t x h.0 in
      let at-xy = all-tells (λ k. T (not (w x k && (eqb k x || s+ k x)))) (λ k. not (w x k && (eqb k x || s+ k x))) (λ k. id-tells (not (w x k && (eqb k x || s+ k x)))) n row y h.1 in
      T_not (w x y && (eqb y x || s+ y x)) at-xy ((and-tells (w x y) (eqb y x || s+ y x) (w-tells x y) (or-tells (eqb y x) (s+ y x) (eqb_tells y x) (tells y x))).1 (v.3, star-trans y u.a x v.4 v.2))
