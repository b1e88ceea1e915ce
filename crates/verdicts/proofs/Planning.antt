-- The heights and the shown cycle of the rows of waits are a plan.
use Prim.Native.Nat.{ℕ, ◌≤◌}
use mathlib.Core.Path.{◌≡◌, refl, sym, ap, subst, ◌∙◌}
use mathlib.Core.Logic.{◌⊎◌, inl, inr, ◌↔◌}
use mathlib.Core.List.{List, map}
use native.Mathlib.Omega.{arith}
use lib.ListN.{length, get_or, take, drop, replicate}
use lib.Seq.{get_or-take, length-take-le}
use Rattle.rules.specs.declared.Message.{Message}
use Rattle.rules.specs.declared.Network.{Network}
use Rattle.rules.specs.Rules.{Relations, Waits, WaitsCycle}
use Rattle.rules.specs.Plan.{Height, Printed, LeastCount, LongestChain, PlanCycle}
use Rattle.rules.specs.Promises.{Accepted, GoodPlan}
use Rattle.rules.proofs.Same.{height-same, shown-same}
use Rattle.rules.proofs.Least.{least_count, longest-from}
use Rattle.rules.proofs.Unique.{least-one}
use Rattle.rules.proofs.Decided.{waits-within, plus-closed}
use Rattle.rules.proofs.Promises.{every-plan, one_class}
use Rattle.rows.specs.Rows.{Rows}
use Rattle.walks.specs.Walks.{HeightsWritten, Heights, CycleWritten, Cycle}
use Rattle.std.specs.Option.{IsSome}
use Rattle.std.specs.Prelude.{Option, Some, None}
use Rattle.tables.specs.Cells.{relations_of_tables}
use Rattle.tables.proofs.InRange.{relations-accepted}
use Rattle.plan_listing.specs.PlanText.{first_networks}
use Rattle.rules.specs.Numbers.{as_message, as_network}
use Rattle.verdicts.specs.declared.PlanFound.TheVariants.{Ranked, Cyclic}
use Rattle.verdicts.specs.Verdicts.{WaitsOf, ThreeFound, TwoFound}
use Rattle.verdicts.specs.Planning.{PlanOfRows}
use Rattle.verdicts.proofs.Waiting.{rows-waits}
use Rattle.verdicts.proofs.Written.{networks-first, past, cycle-first, cycle-stored}

-- a least count is not larger than there are messages
count-few : (p : Relations) → Accepted p → (k : ℕ) → LeastCount p k → k ≤ p.count
count-few p acc k least = go (every-plan p acc)
  where
    go : (WaitsCycle p × (ms : List ℕ) × PlanCycle p ms × (length ms ≤ p.count)) ⊎ ((¬ WaitsCycle p) × GoodPlan p) → k ≤ p.count
    go (inl t) = absurd (one_class p t.1 k t.2 least)
    go (inr t) = omega (arith, least-one p k t.1.number least t.1.least, t.1.small)

module _ (p : Relations) (acc : Accepted p) (few : p.count ≤ 64) (waits : List ℕ) (w : WaitsOf p waits) where
  same : (b c : ℕ) → Rows p.count waits b c ↔ Waits p b c
  same = rows-waits p acc waits w

  module _ (heights : List ℕ) (count : ℕ) (long : length heights ≡ 64) (h : HeightsWritten waits p.count (replicate 64 0) heights count) where
    printed : Printed p (λ m. get_or heights m 0)
    printed m l = height-same (Rows p.count waits) (Waits p) same m (get_or heights m 0) (h.height m l)

    chain : LongestChain p count
    chain =
        let t = h.greatest in
        longest-from p (λ m. get_or heights m 0) printed t.0 t.1 (λ y k. omega (arith, h.below y k, t.2)) count t.2

    least : LeastCount p count
    least = least_count p (waits-within p acc) (λ m. get_or heights m 0) printed count chain

    class-three : (networks : List Network) → networks ≡ map as_network heights → ThreeFound p count networks
    class-three networks is =
        record {
          some = omega (arith, h.greatest.2);
          few = omega (arith, count-few p acc count least);
          long = ap length first ∙ length-take-le p.count heights (omega (arith, long));
          printed = λ m l. subst (Height (Waits p) m) (sym (ap (λ (l : List ℕ). get_or l m 0) first ∙ get_or-take p.count heights m 0 l)) (printed m l);
          least = least;
          networks_past = ap (drop p.count) is ∙ past as_network p.count 64 heights h.rest;
        }
      where
        first : first_networks p.count networks ≡ take p.count heights
        first = ap (first_networks p.count) is ∙ networks-first p.count heights

  class-two : (numbers : List ℕ) (len : ℕ) → length numbers ≡ 64 → CycleWritten waits waits p.count (replicate 64 0) numbers len
      → (cycle : List Message) → cycle ≡ map as_message numbers → TwoFound p (record { length = len; messages = cycle })
  class-two numbers len long c cycle is = record {
    stored = cycle-stored p.count few waits waits numbers len long c cycle is;
    cycle =
        subst (PlanCycle p) (sym (cycle-first p.count few waits waits numbers len long c cycle is))
        (shown-same (Rows p.count waits) (Waits p) (Rows p.count waits) (Waits p) same same (take len numbers) c.shown);
  }

-- where there are no heights there is a closed walk
pub is_cycle : (waits : List ℕ) (n : ℕ) (old heights numbers old' : List ℕ) (r q : Option ℕ) → r ≡ None → Heights waits n old heights r → Cycle waits waits n old' numbers q → IsSome q
is_cycle waits n old heights numbers old' r None e h c =
    let a = (subst (Heights waits n old heights) e h).told.cyclic in
    let t = plus-closed (Rows n waits) a.0 a.1 in
    absurd (c.told.none t.0 t.1)
is_cycle waits n old heights numbers old' r (Some len) e h c = refl

module _ (waits : List ℕ) (n : ℕ) (few : n ≤ 64) where
  -- what was made of heights and of a cycle is a plan
  pub plan-three : (heights : List ℕ) (r : Option ℕ) (count : ℕ) → r ≡ Some count → Heights waits n (replicate 64 0) heights r
      → (networks : List Network) → networks ≡ map as_network heights → PlanOfRows waits n (Ranked count networks)
  plan-three heights r count f h networks is t ok some e w =
      let x = subst (Heights waits n (replicate 64 0) heights) f h in
      class-three (relations_of_tables t) (relations-accepted t ok (omega arith)) (omega arith) waits w heights count x.long
      (subst (λ (k : ℕ). HeightsWritten waits k (replicate 64 0) heights count) (sym e) x.told) networks is

  pub plan-two : (numbers : List ℕ) (q : Option ℕ) (len : ℕ) → q ≡ Some len → Cycle waits waits n (replicate 64 0) numbers q
      → (cycle : List Message) → cycle ≡ map as_message numbers → PlanOfRows waits n (Cyclic (record { length = len; messages = cycle }))
  plan-two numbers q len f c cycle is t ok some e w =
      let x = subst (Cycle waits waits n (replicate 64 0) numbers) f c in
      class-two (relations_of_tables t) (relations-accepted t ok (omega arith)) (omega arith) waits w numbers len x.long
      (subst (λ (k : ℕ). CycleWritten waits waits k (replicate 64 0) numbers len) (sym e) x.told) cycle is
