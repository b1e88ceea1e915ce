-- The call: its answers, how large its numbers are, and what a host reads out of the packed number.
use Prim.Native.Nat.{ℕ, ◌*◌, ◌<◌, ◌≤◌}
use mathlib.Core.Path.{◌≡◌, refl, sym, subst, ap, ◌∙◌}
use mathlib.Core.Bool.{cond}
use mathlib.Core.Logic.{◌⊎◌, inl, inr, ◌≢◌}
use mathlib.Core.List.{List}
use native.Mathlib.Decide.{ℕ_discrete}
use native.Mathlib.Omega.{arith}
use lib.Dec.{eqb}
use lib.ListN.{length}
use borrow.Author.Tests.{eq-eqb, ne_eqb}
use Rattle.std.specs.Prelude.{Result, Ok, Err}
use Rattle.std.specs.Result.{IsErrAnd}
use Rattle.rules.specs.Rules.{WaitsCycle}
use Rattle.rules.specs.Plan.{LeastCount, PlanCycle}
use Rattle.rules.specs.Promises.{GoodPlan}
use Rattle.rules.proofs.Promises.{every-plan, shown-is-real, one_class, determined}
use Rattle.rows.specs.Rows.{of_rows}
use Rattle.rows.proofs.Given.{rows-accepted}
use Rattle.rows.proofs.Counting.{pairs-le}
use Rattle.rows.proofs.closure.Joining.{joins-le, few-joins}
use Rattle.papers.specs.Checks.{first_of}
use Rattle.papers.specs.refused.Refused.{number_of}
use Rattle.papers.proofs.Checks.{only-given}
use Rattle.relations.specs.declared.answer.RelationsAnswer.{RelationsAnswer}
use Rattle.relations.specs.declared.answer.RelationsPlan.{RelationsPlan}
use Rattle.relations.specs.declared.answer.CallRefused.{CallRefused}
use Rattle.relations.specs.declared.answer.CallRefused.TheVariants.{Count, Stray, Room}
use Rattle.relations.specs.answer.Told.{reason_of, answer_of}
use Rattle.relations.specs.answer.Packed.{RelationsSmall, packed_relations, RelationsUnpacked}
use Rattle.relations.specs.row_bytes.RowBytes.{rows_of_bytes}
use Rattle.relations.specs.checks.CallChecks.{relations_checks, relations_refusal, refused_relations}
use Rattle.relations.specs.plans.Plans.{Class3, Class2, RelationsPlanned}
use Rattle.relations.specs.Call.{RelationsCall}
use Rattle.relations.specs.Promises.{RelationsUnderRow, RelationsFit, RelationsFewJoins}
use Rattle.relations.proofs.row_bytes.RowLaws.{rows-length}
use Rattle.relations.proofs.checks.Passing.{passed, number_small, room-few}

-- ---- the answers of the call

-- an error that `?` hands on
pub handed-on : (told : Result RelationsPlan CallRefused) (e : CallRefused) → IsErrAnd told (λ (f : CallRefused). f ≡ e) → told ≡ Err e
handed-on (Ok p) e z = absurd z
handed-on (Err f) e z = ap Err z

pub some-number : (e : CallRefused) → number_of (reason_of e) ≢ 0
some-number Count z = absurd (omega (arith, z))
some-number Stray z = absurd (omega (arith, z))
some-number (Room n) z = absurd (omega (arith, z))

module _ (size most n : ℕ) (causes stalls old : List ℕ) where
  pub call-refused : (e : CallRefused) → answer_of (Err e) ≡ refused_relations (relations_refusal size most n causes stalls (length old)).number n
      → RelationsCall size most n causes stalls old old (answer_of (Err e))
  unfolding refused_relations
  call-refused e a = record {
    refused = λ g. record { answer = a; bytes = refl };
    planned = λ z. absurd (some-number e (ap (λ (r : RelationsAnswer). r.number) a ∙ z));
  }

-- ---- the numbers are small

module _ (n : ℕ) (causes stalls : List ℕ) (some_message : 0 < n) where
  abbrev Plan : Type 0
  Plan = (WaitsCycle (of_rows n causes stalls) × (ms : List ℕ) × PlanCycle (of_rows n causes stalls) ms × (length ms ≤ n)) ⊎ ((¬ WaitsCycle (of_rows n causes stalls)) × GoodPlan (of_rows n causes stalls))

  plan : Plan
  plan = every-plan (of_rows n causes stalls) (rows-accepted n causes stalls some_message)

  least-small : (k : ℕ) → LeastCount (of_rows n causes stalls) k → k ≤ n
  least-small k t = go plan
    where
      go : Plan → k ≤ n
      go (inl s) = absurd (one_class (of_rows n causes stalls) s.1 k s.2 t)
      go (inr s) = omega (arith, determined.least_count (of_rows n causes stalls) s.1.number k s.1.least t, s.1.small)

  cycle-small : (ms : List ℕ) → PlanCycle (of_rows n causes stalls) ms → length ms ≤ n
  cycle-small ms c = go plan
    where
      go : Plan → length ms ≤ n
      go (inl s) = omega (arith, s.3, ap length (determined.plan_cycle (of_rows n causes stalls) ms s.1 c s.2))
      go (inr s) = absurd (s.0 ((shown-is-real (of_rows n causes stalls)).0 ms c))

  module _ (old new : List ℕ) (r : RelationsAnswer) (f : RelationsPlanned n causes stalls old new r) where
    abbrev Class : Type 0
    Class = Class3 (of_rows n causes stalls) f.written r.networks ⊎ Class2 (of_rows n causes stalls) f.written r.networks

    -- n bytes are enough in either class
    pub planned-length : r.length ≤ n
    planned-length = go f.class
      where
        go : Class → r.length ≤ n
        go (inl t) = omega (arith, f.wrote.count, t.long)
        go (inr t) = omega (arith, f.wrote.count, cycle-small f.written t.cycle)

    planned-networks : r.networks ≤ n
    planned-networks = go f.class
      where
        go : Class → r.networks ≤ n
        go (inl t) = least-small r.networks t.least
        go (inr t) = omega (arith, t.none)

    pub planned-small : n ≤ 64 → n ≤ length causes → RelationsSmall r
    planned-small h long = record {
      number = omega (arith, f.number_0);
      length = omega (arith, planned-length);
      networks = omega (arith, planned-networks);
      needed = omega (arith, f.needed_0);
      pairs = omega (arith, pairs-le _ 64 n n r.pairs h f.waits_pairs);
      joins = omega (arith, f.row_joins, joins-le 64 n causes h long);
    }

refused-small : (number n : ℕ) → number ≤ 18 → (number ≡ 16 → n ≤ 64) → RelationsSmall (refused_relations number n)
unfolding refused_relations
refused-small number n h k = record { number = omega arith; length = omega arith; networks = omega arith; needed = go (ℕ_discrete number 16); pairs = omega arith; joins = omega arith }
  where
    go : Dec (number ≡ 16) → cond (eqb number 16) n 0 < 256
    go (yes e) = rw (eq-eqb number 16 e) (omega (arith, k e))
    go (no g) = rw (ne_eqb number 16 g) (omega arith)

refused-length : (number n : ℕ) {room : ℕ} → (refused_relations number n).length ≤ room
unfolding refused_relations
refused-length number n = omega arith

module _ (size most n : ℕ) (causes stalls old new : List ℕ) (r : RelationsAnswer) (f : RelationsCall size most n causes stalls old new r) where
  abbrev k : ℕ
  k = (relations_refusal size most n causes stalls (length old)).number

  pub call-small : most ≤ 64 → RelationsSmall r
  call-small h = go (ℕ_discrete k 0)
    where
      go : Dec (k ≡ 0) → RelationsSmall r
      go (yes z) =
          let p = passed size most n causes stalls (length old) z in
          planned-small n (rows_of_bytes size n causes) (rows_of_bytes size n stalls) p.count.some old new r (f.planned z) (omega (arith, p.count.few)) (omega (arith, rows-length size n causes))
      go (no g) =
          subst RelationsSmall (sym (f.refused g).answer)
          (refused-small k n (number_small size most n causes stalls (length old)) (λ e. omega (arith, room-few size most n causes stalls (length old) e)))

  call_fits : r.length ≤ length old
  call_fits = go (ℕ_discrete k 0)
    where
      go : Dec (k ≡ 0) → r.length ≤ length old
      go (yes z) =
          let p = passed size most n causes stalls (length old) z in
          omega (arith, p.fits, planned-length n (rows_of_bytes size n causes) (rows_of_bytes size n stalls) p.count.some old new r (f.planned z))
      go (no g) = subst (λ (a : RelationsAnswer). a.length ≤ length old) (sym (f.refused g).answer) (refused-length k n)

  call-joins : k ≡ 0 → r.joins ≤ n * n
  call-joins z = omega (arith, (f.planned z).row_joins, few-joins n (rows_of_bytes size n causes) (omega (arith, rows-length size n causes)))

-- ---- the promises

pub relations-few-joins : RelationsFewJoins
relations-few-joins size most n causes stalls old new r f = call-joins size most n causes stalls old new r f

pub relations-fit : RelationsFit
relations-fit size most n causes stalls old new r f = call_fits size most n causes stalls old new r f

pub relations-under-row : RelationsUnderRow
unfolding relations_refusal
relations-under-row size most n causes stalls room g =
    let checks = relations_checks size most n causes stalls room in
    only-given checks (first_of checks).number refl g

-- ---- the packed number

pub unpack-relations : (r : RelationsAnswer) → RelationsSmall r → RelationsUnpacked (packed_relations r) r
unpack-relations r s = record {
  bits_0_7 = omega arith;
  bits_8_15 = omega arith;
  bits_16_23 = omega arith;
  bits_24_31 = omega arith;
  bits_32_47 = omega arith;
  bits_48_63 = omega arith;
}
