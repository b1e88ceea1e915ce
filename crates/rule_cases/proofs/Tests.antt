-- Tests that compute, and what they tell.
use Prim.Native.Nat.{ℕ, zero, suc, ◌<◌}
use mathlib.Core.Path.{◌≡◌, refl, subst}
use mathlib.Core.Logic.{◌⊎◌, inl, inr, ⊎_elim, ◌↔◌}
use mathlib.Core.Bool.{Bool, true, false, not, ◌&&◌, ◌||◌}
use mathlib.Core.List.{List, [], ◌∷◌, map}
use native.Mathlib.Omega.{arith}
use lib.Dec.{T, eqb, eqb→eq, eqb_refl, ltb, ltb→lt, lt→ltb, T_not, not_T}
use lib.ListN.{get_or}
use Rattle.rules.proofs.Search.{Via, below_suc}
use Rattle.rules.specs.Lists.{◌∈◌, ◌≼◌}

-- the test b tells whether P
abbrev pub Tells : Bool → Type 0 → Type 0
Tells b P = T b ↔ P

pub and-tells : {P Q : Type 0} (a b : Bool) → Tells a P → Tells b Q → Tells (a && b) (P × Q)
and-tells true b f g = (λ t. (f.0 tt, g.0 t), λ p. g.1 p.1)
and-tells false b f g = (λ t. absurd t, λ p. f.1 p.0)

pub or-tells : {P Q : Type 0} (a b : Bool) → Tells a P → Tells b Q → Tells (a || b) (P ⊎ Q)
or-tells true b f g = (λ t. inl (f.0 tt), λ p. tt)
or-tells false b f g = (λ t. inr (g.0 t), ⊎_elim (λ p. absurd (f.1 p)) (λ q. g.1 q))

pub not-tells : {P : Type 0} (a : Bool) → Tells a P → Tells (not a) (¬ P)
not-tells a f = (λ t p. T_not a t (f.1 p), λ n. not_T a (λ t. n (f.0 t)))

pub eqb_tells : (m n : ℕ) → Tells (eqb m n) (m ≡ n)
eqb_tells m n = (eqb→eq m n, λ e. subst (λ (k : ℕ). T (eqb m k)) e (eqb_refl m))

pub ltb-tells : (m n : ℕ) → Tells (ltb m n) (m < n)
ltb-tells m n = (ltb→lt m n, lt→ltb m n)

-- some number below n, all numbers below n
abbrev pub any : ℕ → (ℕ → Bool) → Bool
any zero f = false
any (suc n) f = f n || any n f

abbrev pub all : ℕ → (ℕ → Bool) → Bool
all zero f = true
all (suc n) f = f n && all n f

module _ (P : ℕ → Type 0) (f : ℕ → Bool) (tells : (x : ℕ) → Tells (f x) (P x)) where
  pub any_tells : (n : ℕ) → Tells (any n f) ((x : ℕ) × (x < n) × P x)
  any_tells zero = (λ t. absurd t, λ p. omega (arith, p.1))
  any_tells (suc n) =
      let r = or-tells (f n) (any n f) (tells n) (any_tells n) in (
        λ t. ⊎_elim (λ p. (n, omega arith, p)) (λ p. (p.0, omega (arith, p.1), p.2)) (r.0 t),
        λ p. r.1 (below_suc (λ x. P x → P n ⊎ ((x : ℕ) × (x < n) × P x)) n (λ x h q. inr (x, h, q)) (λ q. inl q) p.0 p.1 p.2),
      )

  pub all-tells : (n : ℕ) → T (all n f) → (x : ℕ) → x < n → P x
  all-tells zero t x h = absurd (omega arith)
  all-tells (suc n) t x h =
      let r = (and-tells (f n) (all n f) (tells n) (λ t. t, λ t. t)).0 t in
      below_suc P n (all-tells n r.1) r.0 x h

-- ---- lists of numbers

abbrev pub inb : ℕ → List ℕ → Bool
inb x [] = false
inb x (y ∷ l) = eqb x y || inb x l

pub in-tells : (x : ℕ) (l : List ℕ) → Tells (inb x l) (x ∈ l)
in-tells x [] = (λ t. t, λ t. t)
in-tells x (y ∷ l) = or-tells (eqb x y) (inb x l) (eqb_tells x y) (in-tells x l)

abbrev pub dictb : List ℕ → List ℕ → Bool
dictb [] m = true
dictb (a ∷ l) [] = false
dictb (a ∷ l) (b ∷ m) = ltb a b || (eqb a b && dictb l m)

pub dict-tells : (l m : List ℕ) → Tells (dictb l m) (l ≼ m)
dict-tells [] m = (λ t. t, λ t. t)
dict-tells (a ∷ l) [] = (λ t. t, λ t. t)
dict-tells (a ∷ l) (b ∷ m) = or-tells (ltb a b) (eqb a b && dictb l m) (ltb-tells a b) (and-tells (eqb a b) (dictb l m) (eqb_tells a b) (dict-tells l m))

-- ---- a relation as rows of truth values, and its closure

abbrev pub tab {ℓ} : {A : Type ℓ} → ℕ → (ℕ → A) → List A
tab zero f = []
tab (suc n) f = f 0 ∷ tab n (λ k. f (suc k))

pub tab-at {ℓ} : {A : Type ℓ} (n : ℕ) (f : ℕ → A) (d : A) (i : ℕ) → i < n → get_or (tab n f) i d ≡ f i
tab-at zero f d i h = absurd (omega arith)
tab-at (suc n) f d zero h = refl
tab-at (suc n) f d (suc i) h = tab-at n (λ k. f (suc k)) d i (omega arith)

abbrev pub at : List (List Bool) → ℕ → ℕ → Bool
at rows a b = get_or (get_or rows a []) b false

abbrev pub join : List Bool → List Bool → List Bool
join [] y = y
join (a ∷ x) [] = a ∷ x
join (a ∷ x) (b ∷ y) = (a || b) ∷ join x y

abbrev pub choose {ℓ} : {A : Type ℓ} → Bool → A → A → A
choose true x y = x
choose false x y = y

abbrev pub round : ℕ → List (List Bool) → List (List Bool)
round k rows = let r = get_or rows k [] in map (λ x. choose (get_or x k false) (join x r) x) rows

abbrev pub rounds : ℕ → List (List Bool) → List (List Bool)
rounds zero rows = rows
rounds (suc k) rows = round k (rounds k rows)

pub id-tells : (b : Bool) → Tells b (T b)
id-tells b = (λ t. t, λ t. t)

pub join-tells : (x y : List Bool) (b : ℕ) → Tells (get_or (join x y) b false) (T (get_or x b false) ⊎ T (get_or y b false))
join-tells [] y b = (λ t. inr t, ⊎_elim (λ t. absurd t) (λ t. t))
join-tells (a ∷ x) [] b = (λ t. inl t, ⊎_elim (λ t. t) (λ t. absurd t))
join-tells (a ∷ x) (c ∷ y) zero = or-tells a c (id-tells a) (id-tells c)
join-tells (a ∷ x) (c ∷ y) (suc b) = join-tells x y b

choose-tells : (t : Bool) (x r : List Bool) (b : ℕ) → Tells (get_or (choose t (join x r) x) b false) (T (get_or x b false) ⊎ (T t × T (get_or r b false)))
choose-tells true x r b = (λ t. ⊎_elim (λ u. inl u) (λ u. inr (tt, u)) ((join-tells x r b).0 t), λ s. (join-tells x r b).1 (⊎_elim (λ u. inl u) (λ u. inr u.1) s))
choose-tells false x r b = (λ t. inl t, ⊎_elim (λ t. t) (λ t. absurd t.0))

row-tells : (k : ℕ) (r : List Bool) (rows : List (List Bool)) (a b : ℕ)
    → Tells (at (map (λ x. choose (get_or x k false) (join x r) x) rows) a b) (T (at rows a b) ⊎ (T (at rows a k) × T (get_or r b false)))
row-tells k r [] a b = (λ t. absurd t, ⊎_elim (λ t. t) (λ t. absurd t.0))
row-tells k r (x ∷ rows) zero b = choose-tells (get_or x k false) x r b
row-tells k r (x ∷ rows) (suc a) b = row-tells k r rows a b

pub rounds-tell : (R : ℕ → ℕ → Type 0) (rows : List (List Bool)) → ((a b : ℕ) → Tells (at rows a b) (R a b)) → (k a b : ℕ) → Tells (at (rounds k rows) a b) (Via R k a b)
rounds-tell R rows f zero a b = f a b
rounds-tell R rows f (suc k) a b =
    let s = row-tells k (get_or (rounds k rows) k []) (rounds k rows) a b in
    let u = rounds-tell R rows f k in (
      λ t. ⊎_elim (λ v. inl ((u a b).0 v)) (λ v. inr ((u a k).0 v.0, (u k b).0 v.1)) (s.0 t),
      λ v. s.1 (⊎_elim (λ w. inl ((u a b).1 w)) (λ w. inr ((u a k).1 w.0, (u k b).1 w.1)) v),
    )
