-- The rules determine what is printed: two answers that they allow are equal.
use Prim.Native.Nat.{ℕ, zero, suc, ◌<◌, ◌≤◌}
use mathlib.Core.Path.{◌≡◌, refl, sym, ap₂, ◌∙◌}
use mathlib.Core.Logic.{inl, inr}
use mathlib.Core.List.{List, [], ◌∷◌}
use native.Mathlib.Omega.{arith}
use lib.ListN.{length}
use Rattle.rules.specs.Lists.{◌≼◌}
use Rattle.rules.specs.Walks.{Rel}
use Rattle.rules.specs.Rules.{Relations, Mapping, Waits}
use Rattle.rules.specs.Plan.{Uses, LeastCount, Height, Printed, Counts, Pairs, Shown, Word, waits, queues, Says}
use Rattle.rules.proofs.Pigeon.{pigeon}

-- ---- numbers

pub height-one : (R : Rel) (m h k : ℕ) → Height R m h → Height R m k → h ≡ k
height-one R m h k s t = omega (arith, s.longest t.rest t.chain, t.longest s.rest s.chain, s.steps, t.steps)

pub printed-one : (p : Relations) (φ ψ : Mapping) → Printed p φ → Printed p ψ → (m : ℕ) → m < p.count → φ m ≡ ψ m
printed-one p φ ψ s t m h = height-one (Waits p) m (φ m) (ψ m) (s m h) (t m h)

uses-le : (n : ℕ) (φ : Mapping) (j k : ℕ) → Uses n φ j → Uses n φ k → j ≤ k
uses-le n φ j k s t =
    let g = pigeon s.networks t.networks s.distinct (λ A i. let r = s.each_used A i in rw (← r.2) (t.each_listed r.0 r.1)) in
    omega (arith, s.number, t.number)

pub uses-one : (n : ℕ) (φ : Mapping) (j k : ℕ) → Uses n φ j → Uses n φ k → j ≡ k
uses-one n φ j k s t = omega (arith, uses-le n φ j k s t, uses-le n φ k j t s)

pub least-one : (p : Relations) (j k : ℕ) → LeastCount p j → LeastCount p k → j ≡ k
least-one p j k s t = omega (arith, s.least t.mapping k t.fit t.uses, t.least s.mapping j s.fit s.uses)

pub counts-one : (P : ℕ → Type 0) (n j k : ℕ) → Counts P n j → Counts P n k → j ≡ k
counts-one P zero j k s t = s ∙ sym t
counts-one P (suc n) j k (inl s) (inl t) = omega (arith, counts-one P n s.0 t.0 s.2 t.2, s.3, t.3)
counts-one P (suc n) j k (inl s) (inr t) = absurd (t.0 s.1)
counts-one P (suc n) j k (inr s) (inl t) = absurd (s.0 t.1)
counts-one P (suc n) j k (inr s) (inr t) = counts-one P n j k s.1 t.1

pub pairs-one : (R : Rel) (n b j k : ℕ) → Pairs R n b j → Pairs R n b k → j ≡ k
pairs-one R n zero j k s t = s ∙ sym t
pairs-one R n (suc b) j k s t = omega (arith, counts-one (R b) n s.0 t.0 s.2 t.2, pairs-one R n b s.1 t.1 s.3 t.3, s.4, t.4)

-- ---- the shown cycle

pub dictionary : (l m : List ℕ) → l ≼ m → m ≼ l → l ≡ m
dictionary [] [] s t = refl
dictionary [] (b ∷ m) s t = absurd t
dictionary (a ∷ l) [] s t = absurd s
dictionary (a ∷ l) (b ∷ m) (inl s) (inl t) = absurd (omega arith)
dictionary (a ∷ l) (b ∷ m) (inl s) (inr t) = absurd (omega (arith, t.0))
dictionary (a ∷ l) (b ∷ m) (inr s) (inl t) = absurd (omega (arith, s.0))
dictionary (a ∷ l) (b ∷ m) (inr s) (inr t) = ap₂ ◌∷◌ s.0 (dictionary l m s.1 t.1)

pub shown-one : (W S : Rel) (l m : List ℕ) → Shown W S l → Shown W S m → l ≡ m
shown-one W S l m s t =
    let e : length l ≡ length m = omega (arith, s.shortest m t.closed, t.shortest l s.closed) in
    dictionary l m (s.first m t.closed (sym e)) (t.first l s.closed e)

pub word-one : (p : Relations) (φ : Mapping) (m k : ℕ) (v w : Word) → Says p φ m v k → Says p φ m w k → v ≡ w
word-one p φ m k waits waits s t = refl
word-one p φ m k waits queues s t = absurd (t.0 s)
word-one p φ m k queues waits s t = absurd (s.0 t)
word-one p φ m k queues queues s t = refl
