-- How long a judgement's listing can be, and how large the numbers of an answer.
use Prim.Native.Nat.{ℕ, suc, ◌≤◌}
use mathlib.Core.Path.{◌≡◌, refl, ap}
use mathlib.Core.Logic.{◌⊎◌, inl, inr}
use mathlib.Core.Bool.{Bool, true, false}
use mathlib.Core.List.{List, [], ◌∷◌, ◌++◌}
use native.Mathlib.Omega.{arith}
use lib.ListN.{length, length-append}
use lib.Dec.{eqb}
use borrow.Author.Tests.{eqb-true, eqb-false}
use Rattle.rules.specs.Rules.{MessageNo, Relations, Mapping, Fit, Unfit}
use Rattle.rules.specs.Plan.{JudgeCycle}
use Rattle.rules.specs.Promises.{Accepted}
use Rattle.rules.proofs.Promises.{every-judgement, determined, shown-is-real}
use Rattle.tables.specs.Tables.{messages_of_lem}
use Rattle.tables.specs.Cells.{relations_of_tables}
use Rattle.protocol.specs.Reading.{read_protocol_lem}
use Rattle.reading_laws.proofs.protocols.Accepted.{accepted-kept}
use Rattle.reading_laws.proofs.bounds.NamesKept.{names-kept}
use Rattle.reading_laws.proofs.bounds.Bounds.{protocol-low, mapping-low}
use Rattle.answers.specs.declared.Answer.{Answer}
use Rattle.answers.specs.Answers.{Small}
use Rattle.answers.proofs.Small.{small-refused, small-listed}
use Rattle.judge_listing.specs.JudgeText.{ShownStep}
use Rattle.judge_listing.proofs.fit.Lengths.{fit_length}
use Rattle.judge_listing.proofs.Longest.{longest-unfit}
use Rattle.verdicts.specs.Verdicts.{mapping_of_lem}
use Rattle.judge.specs.Call.{Shows, ShowsAll, mapped_for, AfterProtocol}
use Rattle.judge.specs.Longest.{JudgeLength, JudgeSmall}

-- ---- as many steps as messages

shows-length : (p : Relations) (φ : Mapping) (a : MessageNo) (l : List MessageNo) (ss : List ShownStep) → Shows p φ a l ss → length ss ≡ length l
shows-length p φ a [] [] s = refl
shows-length p φ a [] (x ∷ ss) s = absurd s
shows-length p φ a (b ∷ l) [] s = absurd s
shows-length p φ a (b ∷ l) (x ∷ ss) s = ap suc (shows-length p φ b l ss s.3)

all-length : (p : Relations) (φ : Mapping) (c : List MessageNo) (ss : List ShownStep) → ShowsAll p φ c ss → length ss ≡ length c
all-length p φ [] ss s = absurd s
all-length p φ (a ∷ l) ss s = omega (arith, shows-length p φ a (l ++ (a ∷ [])) ss s, length-append l (a ∷ []))

-- the shown cycle has no message twice
cycle-small : (p : Relations) → Accepted p → p.count ≤ 64 → (φ : Mapping) (c : List MessageNo) → JudgeCycle p φ c → length c ≤ 64
cycle-small p acc most φ c s = go (every-judgement p acc φ)
  where
    go : Fit p φ ⊎ (Unfit p φ × (ms : List MessageNo) × JudgeCycle p φ ms × (length ms ≤ p.count)) → length c ≤ 64
    go (inl f) = absurd (f ((shown-is-real p).1 φ c s))
    go (inr q) = omega (arith, most, q.3, ap length (determined.judge_cycle p φ c q.1 s q.2))

pub judge-length : JudgeLength
judge-length x listing φ e (inl w) = omega (arith, ap length w.is, fit_length)
judge-length x listing φ e (inr w) =
    let good = accepted-kept x e in
    let p = relations_of_tables (read_protocol_lem x).tables in
    let few = cycle-small p good.relations good.kept.ok.messages φ w.cycle w.shown in
    let most = longest-unfit (read_protocol_lem x).tables.messages w.steps (names-kept x e).short (omega (arith, few, all-length p φ w.cycle w.steps w.said)) in
    omega (arith, ap length w.is, most)

-- ---- the answer

after_small : (x : List ℕ) → (read_protocol_lem x).refusal.number ≡ 0 → (y old new : List ℕ) (r : Answer) → AfterProtocol (read_protocol_lem x).tables y old new r → Small r
after_small x z y old new r c = go (eqb (mapped_for (read_protocol_lem x).tables y).refusal.number 0) refl
  where
    go : (b : Bool) → eqb (mapped_for (read_protocol_lem x).tables y).refusal.number 0 ≡ b → Small r
    go true e =
        let j = c.judged (eqb-true (mapped_for (read_protocol_lem x).tables y).refusal.number 0 e) in
        small-listed j.listing old new r (omega (arith, judge-length x j.listing (mapping_of_lem (mapped_for (read_protocol_lem x).tables y).networks) z j.allowed)) j.listed
    go false e =
        let low = mapping-low (messages_of_lem (read_protocol_lem x).tables) y in
        small-refused (mapped_for (read_protocol_lem x).tables y).refusal 1 r low.0 (omega arith) low.1 (omega (arith, low.2))
        (c.mapping_refused (eqb-false (mapped_for (read_protocol_lem x).tables y).refusal.number 0 e)).answer

pub judge-small : JudgeSmall
judge-small x y old new r c = go (eqb (read_protocol_lem x).refusal.number 0) refl
  where
    go : (b : Bool) → eqb (read_protocol_lem x).refusal.number 0 ≡ b → Small r
    go true e = let z = eqb-true (read_protocol_lem x).refusal.number 0 e in after_small x z y old new r (c.protocol_accepted z)
    go false e =
        let low = protocol-low x in
        small-refused (read_protocol_lem x).refusal 0 r low.0 (omega arith) low.1 (omega (arith, low.2)) (c.protocol_refused (eqb-false (read_protocol_lem x).refusal.number 0 e)).answer
