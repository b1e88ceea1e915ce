-- The contracts determine the answers: two that they allow are equal, and so are the lent bytes.
use Prim.Native.Nat.{ℕ}
use mathlib.Core.Path.{◌≡◌, refl, sym, ◌∙◌, ap}
use mathlib.Core.Logic.{◌⊎◌, inl, inr, ◌≢◌}
use mathlib.Core.List.{List}
use native.Mathlib.Decide.{ℕ_discrete}
use native.Mathlib.Omega.{arith}
use lib.ListN.{length, get_or}
use lib.Seq.{ext_get_or}
use Rattle.std.specs.Prelude.{Option, Some, None, Result, Ok, Err, IfOk}
use Rattle.determined.specs.Determined.{Determines, DeterminesLent}
use Rattle.determined.proofs.Equal.{equal}
use Rattle.rules.specs.Rules.{Relations}
use Rattle.rules.proofs.Promises.{determined, one_class}
use Rattle.rows.specs.Rows.{of_rows}
use Rattle.text.specs.Written.{wrote}
use Rattle.papers.specs.refused.Refused.{number_of}
use Rattle.relations.specs.declared.answer.RelationsPlan.{RelationsPlan}
use Rattle.relations.specs.declared.answer.CallRefused.{CallRefused}
use Rattle.relations.specs.declared.answer.CallRefused.TheVariants.{Count, Stray, Room}
use Rattle.relations.specs.declared.answer.RelationsAnswer.{RelationsAnswer}
use Rattle.relations.specs.answer.Told.{reason_of, needed_of, count_of, answer_of}
use Rattle.relations.specs.answer.Packed.{packed_relations}
use Rattle.relations.specs.row_bytes.RowBytes.{rows_of_bytes}
use Rattle.relations.specs.checks.CallChecks.{relations_refusal}
use Rattle.relations.specs.plans.Plans.{Class3, Class2, RelationsPlanned}
use Rattle.relations.specs.Call.{RelationsCall}
use Rattle.relations.proofs.Calls.{some-number}

same_answer : (r s : RelationsAnswer) → r.number ≡ s.number → r.length ≡ s.length → r.networks ≡ s.networks → r.needed ≡ s.needed → r.pairs ≡ s.pairs → r.joins ≡ s.joins → r ≡ s
same_answer r s a b c d e f =
    let t : ◌≡◌ {A = RelationsAnswer}
    (record { number = r.number; length = r.length; networks = r.networks; needed = r.needed; pairs = r.pairs; joins = r.joins })
    (record { number = s.number; length = s.length; networks = s.networks; needed = s.needed; pairs = s.pairs; joins = s.joins }) = cc
    in t

module _ (p : Relations) where
  -- what is written, and the least count
  class-one : (l m : List ℕ) (j k : ℕ) → Class3 p l j ⊎ Class2 p l j → Class3 p m k ⊎ Class2 p m k → (l ≡ m) × (j ≡ k)
  class-one l m j k (inl s) (inl t) = (
    ext_get_or 0 l m (s.long ∙ sym t.long) (λ i h. determined.mapping p (λ i. get_or l i 0) (λ i. get_or m i 0) s.printed t.printed i (omega (arith, s.long))),
    determined.least_count p j k s.least t.least,
  )
  class-one l m j k (inl s) (inr t) = absurd (one_class p m j t.cycle s.least)
  class-one l m j k (inr s) (inl t) = absurd (one_class p l k s.cycle t.least)
  class-one l m j k (inr s) (inr t) = (determined.plan_cycle p l m s.cycle t.cycle, s.none ∙ sym t.none)

planned-one : (n : ℕ) (causes stalls old : List ℕ) → DeterminesLent (RelationsPlanned n causes stalls old)
planned-one n causes stalls old new new' r s f g =
    let p = of_rows n causes stalls in
    let c = class-one p f.written g.written r.networks s.networks f.class g.class in (
      same_answer r s (f.number_0 ∙ sym g.number_0) (f.wrote.count ∙ ap length c.0 ∙ sym g.wrote.count) c.1 (f.needed_0 ∙ sym g.needed_0)
          (determined.waits_pairs p r.pairs s.pairs f.waits_pairs g.waits_pairs) (f.row_joins ∙ sym g.row_joins),
      f.wrote.bytes ∙ ap (λ (t : List ℕ). wrote t old) c.0 ∙ sym g.wrote.bytes,
    )

-- two answers of the call, with the bytes that they leave
pub call-one : (size most n : ℕ) (causes stalls old : List ℕ) → DeterminesLent (RelationsCall size most n causes stalls old)
call-one size most n causes stalls old new new' r s f g = go (ℕ_discrete (relations_refusal size most n causes stalls (length old)).number 0)
  where
    go : Dec ((relations_refusal size most n causes stalls (length old)).number ≡ 0) → (r ≡ s) × (new ≡ new')
    go (yes z) = planned-one n (rows_of_bytes size n causes) (rows_of_bytes size n stalls) old new new' r s (f.planned z) (g.planned z)
    go (no q) = ((f.refused q).answer ∙ sym (g.refused q).answer, (f.refused q).bytes ∙ sym (g.refused q).bytes)

-- ---- the answers themselves, which their numbers determine where no count is 0

abbrev Counted : Result RelationsPlan CallRefused → Type 0
Counted r = IfOk r (λ p. p.networks ≢ Some 0)

count-one : (j k : Option ℕ) → j ≢ Some 0 → k ≢ Some 0 → count_of j ≡ count_of k → j ≡ k
count-one None None f g e = refl
count-one None (Some k) f g e = absurd (g (ap Some (sym e)))
count-one (Some j) None f g e = absurd (f (ap Some e))
count-one (Some j) (Some k) f g e = ap Some e

same_plan : (p q : RelationsPlan) → p.length ≡ q.length → p.networks ≡ q.networks → p.pairs ≡ q.pairs → p.joins ≡ q.joins → p ≡ q
same_plan p q a b c d =
    let t : ◌≡◌ {A = RelationsPlan}
    (record { length = p.length; networks = p.networks; pairs = p.pairs; joins = p.joins })
    (record { length = q.length; networks = q.networks; pairs = q.pairs; joins = q.joins }) = cc
    in t

same_refused : (e f : CallRefused) → number_of (reason_of e) ≡ number_of (reason_of f) → needed_of e ≡ needed_of f → e ≡ f
same_refused Count Count a b = refl
same_refused Stray Stray a b = refl
same_refused (Room n) (Room m) a b = ap Room b
same_refused Count Stray a b = absurd (omega (arith, a))
same_refused Count (Room m) a b = absurd (omega (arith, a))
same_refused Stray Count a b = absurd (omega (arith, a))
same_refused Stray (Room m) a b = absurd (omega (arith, a))
same_refused (Room n) Count a b = absurd (omega (arith, a))
same_refused (Room n) Stray a b = absurd (omega (arith, a))

answer-one : (r s : Result RelationsPlan CallRefused) → Counted r → Counted s → answer_of r ≡ answer_of s → r ≡ s
answer-one (Ok p) (Ok q) f g e = ap Ok (
    same_plan p q (ap (λ (a : RelationsAnswer). a.length) e) (count-one p.networks q.networks f g (ap (λ (a : RelationsAnswer). a.networks) e))
    (ap (λ (a : RelationsAnswer). a.pairs) e) (ap (λ (a : RelationsAnswer). a.joins) e)
    )
answer-one (Ok p) (Err f) c d e = absurd (some-number f (sym (ap (λ (a : RelationsAnswer). a.number) e)))
answer-one (Err f) (Ok p) c d e = absurd (some-number f (ap (λ (a : RelationsAnswer). a.number) e))
answer-one (Err f) (Err g) c d e = ap Err (same_refused f g (ap (λ (a : RelationsAnswer). a.number) e) (ap (λ (a : RelationsAnswer). a.needed) e))

-- two results of the call in the library, with the bytes that they leave
pub relations-one : (size most n : ℕ) (causes stalls old : List ℕ)
    → DeterminesLent (λ (new : List ℕ) (r : Result RelationsPlan CallRefused). RelationsCall size most n causes stalls old new (answer_of r) × Counted r)
relations-one size most n causes stalls old new new' r s f g =
    let q = call-one size most n causes stalls old new new' (answer_of r) (answer_of s) f.0 g.0 in (answer-one r s f.1 g.1 q.0, q.1)

pub packed-one : (a : RelationsAnswer) → Determines (λ (r : ℕ). r ≡ packed_relations a)
packed-one a = equal _
