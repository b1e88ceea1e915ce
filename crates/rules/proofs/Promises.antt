-- The promises about the rules hold.
use Prim.Native.Nat.{ℕ, zero, suc, ◌+◌, ◌<◌, ◌≤◌}
use mathlib.Core.Path.{◌≡◌, refl, subst}
use mathlib.Core.Logic.{◌⊎◌, inl, inr}
use mathlib.Core.List.{List}
use native.Mathlib.Omega.{arith}
use lib.ListN.{length}
use Rattle.rules.specs.Walks.{Rel}
use Rattle.rules.specs.Rules.{Relations, Mapping, Waits, Step, Unfit, Fit, WaitsCycle}
use Rattle.rules.specs.Plan.{Counts, Pairs, Height, Printed, LongestChain, Closed, Shown, PlanCycle, JudgeCycle, Uses, Word, waits, queues, Says}
use Rattle.rules.specs.Promises.{Accepted, SameVerdict, CycleIsUnfit, GoodPlan, EveryPlan, OneClass, EveryPrinted, EveryJudgement, EveryWord, EveryCount, ShownIsReal, Determined}
use Rattle.rules.proofs.Networks.{networks-alone, cycle-unfit}
use Rattle.rules.proofs.Least.{printed-fit, printed-uses, least_count, longest-from}
use Rattle.rules.proofs.Unique.{printed-one, uses-one, least-one, shown-one, word-one, pairs-one}
use Rattle.rules.proofs.Cycle.{shown?}
use Rattle.rules.proofs.Heights.{most, heights}
use Rattle.rules.proofs.Decided.{waits-within, waits?, step?, step-within, closed-unfit, unfit-closed, closed-cycle, cycle-closed}

pub same-verdict : SameVerdict
same-verdict p acc φ = networks-alone p (waits-within p acc) φ

pub cycle-is-unfit : CycleIsUnfit
cycle-is-unfit = cycle-unfit

pub shown-is-real : ShownIsReal
shown-is-real p = (λ ms s. closed-cycle p ms s.closed, λ φ ms s. closed-unfit p φ ms s.closed)

pub every-judgement : EveryJudgement
every-judgement p acc φ = go (shown? p.count (Waits p) (Step p φ) (waits? p acc) (step? p acc φ) (step-within p acc φ))
  where
    go : ((ms : List ℕ) × Shown (Waits p) (Step p φ) ms × (length ms ≤ p.count)) ⊎ ((ms : List ℕ) → ¬ Closed (Waits p) (Step p φ) ms)
        → Fit p φ ⊎ (Unfit p φ × (ms : List ℕ) × JudgeCycle p φ ms × (length ms ≤ p.count))
    go (inl t) = inr (closed-unfit p φ t.0 t.1.closed, t.0, t.1, t.2)
    go (inr g) = inl (λ u. let t = unfit-closed p φ u in g t.0 t.1)

module _ (p : Relations) (acc : Accepted p) (acyclic : ¬ WaitsCycle p) where
  level : (m : ℕ) → (h : ℕ) × (m < p.count → (h < p.count) × Height (Waits p) m h)
  level = heights (Waits p) p.count (waits-within p acc) (λ a c. acyclic (a, c)) (waits? p acc)

  -- the longest of the longest chains
  longest : (n : ℕ) → p.count ≡ suc n → (k : ℕ) × LongestChain p k × (k ≤ p.count)
  longest n e =
      let t = most (λ m. (level m).0) n in
      let h : t.0 < p.count = omega (arith, t.1) in (
        suc (level t.0).0,
        longest-from p (λ m. (level m).0) (λ m h. ((level m).1 h).1) t.0 h (λ y k. t.2 y (omega arith)) (suc (level t.0).0) refl,
        ((level t.0).1 h).0,
      )

  good-plan : GoodPlan p
  good-plan =
      let φ : Mapping = λ m. (level m).0 in
      let pr : Printed p φ = λ m h. ((level m).1 h).1 in
      let t = count-suc p.count acc.some_message in
      let s = longest t.0 t.1 in
      record {
        number = s.0;
        mapping = φ;
        printed = pr;
        fit = printed-fit p (waits-within p acc) φ pr;
        reached = printed-uses p (waits-within p acc) φ pr s.0 s.1;
        none_fewer = (least_count p (waits-within p acc) φ pr s.0 s.1).least;
        chain = s.1;
        least = least_count p (waits-within p acc) φ pr s.0 s.1;
        small = s.2;
        networks_small = λ m h. ((level m).1 h).0;
      }
    where
      count-suc : (n : ℕ) → 0 < n → (k : ℕ) × (n ≡ suc k)
      count-suc zero h = absurd (omega arith)
      count-suc (suc k) h = (k, refl)

pub every-plan : EveryPlan
every-plan p acc = go (shown? p.count (Waits p) (Waits p) (waits? p acc) (waits? p acc) (waits-within p acc))
  where
    go : ((ms : List ℕ) × Shown (Waits p) (Waits p) ms × (length ms ≤ p.count)) ⊎ ((ms : List ℕ) → ¬ Closed (Waits p) (Waits p) ms)
        → (WaitsCycle p × (ms : List ℕ) × PlanCycle p ms × (length ms ≤ p.count)) ⊎ ((¬ WaitsCycle p) × GoodPlan p)
    go (inl t) = inl (closed-cycle p t.0 t.1.closed, t.0, t.1, t.2)
    go (inr g) =
        let none : ¬ WaitsCycle p = λ c. let t = cycle-closed p c in g t.0 t.1 in
        inr (none, good-plan p acc none)

pub one_class : OneClass
one_class p ms k s t = t.fit (cycle-is-unfit p ((shown-is-real p).0 ms s) t.mapping)

pub every-printed : EveryPrinted
every-printed p acc φ k pr least = go (every-plan p acc)
  where
    go : (WaitsCycle p × (ms : List ℕ) × PlanCycle p ms × (length ms ≤ p.count)) ⊎ ((¬ WaitsCycle p) × GoodPlan p) → Fit p φ × Uses p.count φ k × LongestChain p k
    go (inl t) = absurd (least.fit (cycle-is-unfit p t.0 least.mapping))
    go (inr t) =
        let chain : LongestChain p k = subst (LongestChain p) (least-one p t.1.number k t.1.least least) t.1.chain in
        (printed-fit p (waits-within p acc) φ pr, printed-uses p (waits-within p acc) φ pr k chain, chain)

pub every-word : EveryWord
every-word p acc φ m k s = go (waits? p acc m k) s
  where
    go : Dec (Waits p m k) → Step p φ m k → (w : Word) × Says p φ m w k
    go (yes h) s = (waits, h)
    go (no g) (inl h) = absurd (g h)
    go (no g) (inr q) = (queues, (g, q))

count : (P : ℕ → Type 0) → ((x : ℕ) → Dec (P x)) → (n : ℕ) → (k : ℕ) × Counts P n k
count P d zero = (0, refl)
count P d (suc n) = go (count P d n) (d n)
  where
    go : (k : ℕ) × Counts P n k → Dec (P n) → (k : ℕ) × Counts P (suc n) k
    go t (yes q) = (suc t.0, inl (t.0, q, t.1, refl))
    go t (no g) = (t.0, inr (g, t.1))

pairs : (R : Rel) → ((a b : ℕ) → Dec (R a b)) → (n b : ℕ) → (k : ℕ) × Pairs R n b k
pairs R d n zero = (0, refl)
pairs R d n (suc b) = let t = count (R b) (d b) n in let u = pairs R d n b in (t.0 + u.0, (t.0, u.0, t.1, u.1, refl))

pub every-count : EveryCount
every-count p acc = pairs (Waits p) (waits? p acc) p.count p.count

pub determined : Determined
determined = record {
  least_count = least-one;
  networks = uses-one;
  mapping = printed-one;
  plan_cycle = λ p. shown-one (Waits p) (Waits p);
  judge_cycle = λ p φ. shown-one (Waits p) (Step p φ);
  word = word-one;
  waits_pairs = λ p j k. pairs-one (Waits p) p.count p.count j k;
}
