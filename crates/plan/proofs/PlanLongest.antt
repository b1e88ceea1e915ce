-- How long a plan's listing can be, and how large the numbers of an answer.
use Prim.Native.Nat.{ℕ, ◌<◌, ◌≤◌}
use mathlib.Core.Path.{◌≡◌, refl, sym, ap, subst}
use mathlib.Core.Logic.{◌⊎◌, inl, inr}
use mathlib.Core.Bool.{Bool, true, false}
use mathlib.Core.List.{List, []}
use native.Mathlib.Omega.{arith}
use lib.ListN.{length, get_or, take, get_or-eq_default}
use lib.Seq.{length-take-le, get_or-take}
use lib.Dec.{eqb, ltb}
use borrow.Author.Tests.{eqb-true, eqb-false, ltb-true, ltb-false}
use Rattle.rules.specs.Rules.{MessageNo, Relations, WaitsCycle}
use Rattle.rules.specs.Plan.{LeastCount, Printed, PlanCycle}
use Rattle.rules.specs.Promises.{Accepted, GoodPlan}
use Rattle.rules.proofs.Promises.{every-plan, one_class, determined}
use Rattle.text.specs.Name.{name_text}
use Rattle.text.proofs.NameLaws.{name-text}
use Rattle.tables.specs.declared.MessageRow.{MessageRow}
use Rattle.tables.specs.Tables.{no_message_row, messages_of_lem}
use Rattle.tables.specs.Cells.{relations_of_tables}
use Rattle.protocol.specs.Reading.{read_protocol_lem}
use Rattle.reading_laws.specs.protocols.Promises.{AcceptedReading}
use Rattle.reading_laws.proofs.protocols.Accepted.{accepted-kept}
use Rattle.reading_laws.specs.bounds.Bounds.{Named}
use Rattle.reading_laws.proofs.bounds.NamesKept.{names-kept}
use Rattle.reading_laws.proofs.bounds.Bounds.{protocol-low}
use Rattle.answers.specs.Answers.{Small}
use Rattle.answers.proofs.Small.{small-refused, small-listed}
use Rattle.plan_listing.specs.Lengths.{ShortNames}
use Rattle.plan_listing.proofs.Longest.{longest-maps, longest-cycle}
use Rattle.plan.specs.Call.{PlanListing}
use Rattle.plan.specs.Longest.{PlanLength, PlanSmall}

-- ---- relations of at most so many messages

module _ (p : Relations) (acc : Accepted p) (most : ℕ) (few : p.count ≤ most) where
  abbrev Class : Type 0
  Class = (WaitsCycle p × (l : List MessageNo) × PlanCycle p l × (length l ≤ p.count)) ⊎ ((¬ WaitsCycle p) × GoodPlan p)

  module _ (k : ℕ) (least : LeastCount p k) where
    -- the printed networks are below that
    pub networks-below : (ns : List ℕ) → length ns ≡ p.count → Printed p (λ m. get_or ns m 0) → (i : ℕ) → i < length ns → get_or ns i 0 < most
    networks-below ns long printed i h = go (every-plan p acc)
      where
        go : Class → get_or ns i 0 < most
        go (inl q) = absurd (one_class p q.1 k q.2 least)
        go (inr q) =
            omega (arith, few, q.1.networks_small i (omega (arith, h, long)), determined.mapping p (λ m. get_or ns m 0) q.1.mapping printed q.1.printed i (omega (arith, h, long)))

    -- and so many networks there are at most
    count_small : k ≤ most
    count_small = go (every-plan p acc)
      where
        go : Class → k ≤ most
        go (inl q) = absurd (one_class p q.1 k q.2 least)
        go (inr q) = omega (arith, few, q.1.small, determined.least_count p k q.1.number least q.1.least)

  -- the shown cycle has no message twice
  cycle-small : (l : List MessageNo) → PlanCycle p l → length l ≤ most
  cycle-small l c = go (every-plan p acc)
    where
      go : Class → length l ≤ most
      go (inl q) = omega (arith, few, q.3, ap length (determined.plan_cycle p l q.1 c q.2))
      go (inr q) = absurd (one_class p l q.1.number c q.1.least)

-- ---- the rows of messages

first_short : (rows : List MessageRow) (n : ℕ) → ShortNames rows → n ≤ length rows → ShortNames (take n rows)
first_short rows n f h i = go (ltb i n) refl
  where
    go : (b : Bool) → ltb i n ≡ b → length (name_text (get_or (take n rows) i no_message_row).name) ≤ 24
    go true e = subst (λ (r : MessageRow). length (name_text r.name) ≤ 24) (sym (get_or-take n rows i no_message_row (ltb-true i n e))) (f i)
    go false e =
        let past : length (take n rows) ≤ i = omega (arith, length-take-le n rows h, ltb-false i n e) in
        subst (λ (r : MessageRow). length (name_text r.name) ≤ 24) (sym (get_or-eq_default (take n rows) no_message_row {n = i} past)) (omega (arith, ap length (name-text [])))

-- ---- the listing

pub plan-length : PlanLength
plan-length text listing e l = go l
  where
    good : AcceptedReading (read_protocol_lem text)
    good = accepted-kept text e

    rows : Named (read_protocol_lem text).tables
    rows = names-kept text e

    few : (read_protocol_lem text).tables.message_count ≤ 64
    few = good.kept.ok.messages

    go : PlanListing (read_protocol_lem text).tables listing → length listing ≤ 2078
    go (inl w) =
        let n = (read_protocol_lem text).tables.message_count in
        let ms = (read_protocol_lem text).tables.messages in
        let long = length-take-le n ms (omega (arith, few, rows.long)) in
        let most = longest-maps (messages_of_lem (read_protocol_lem text).tables) w.networks w.count (first_short ms n rows.short (omega (arith, few, rows.long)))
        (omega (arith, long, few)) (networks-below (relations_of_tables (read_protocol_lem text).tables) good.relations 64 few w.count w.least w.networks w.long w.printed)
        (count_small (relations_of_tables (read_protocol_lem text).tables) good.relations 64 few w.count w.least) in
        omega (arith, ap length w.is, most)
    go (inr w) =
        let most = longest-cycle (read_protocol_lem text).tables.messages w.cycle rows.short
        (cycle-small (relations_of_tables (read_protocol_lem text).tables) good.relations 64 few w.cycle w.shown) in
        omega (arith, ap length w.is, most)

-- ---- the answer

pub plan-small : PlanSmall
plan-small text old new r c = go (eqb (read_protocol_lem text).refusal.number 0) refl
  where
    go : (b : Bool) → eqb (read_protocol_lem text).refusal.number 0 ≡ b → Small r
    go true e =
        let z = eqb-true (read_protocol_lem text).refusal.number 0 e in
        let p = c.planned z in
        small-listed p.listing old new r (omega (arith, plan-length text p.listing z p.allowed)) p.listed
    go false e =
        let low = protocol-low text in
        small-refused (read_protocol_lem text).refusal 0 r low.0 (omega arith) low.1 (omega (arith, low.2)) (c.refused (eqb-false (read_protocol_lem text).refusal.number 0 e)).answer
