-- The planning call is determined: answer and lent bytes.
use Prim.Native.Nat.{ℕ}
use mathlib.Core.Path.{◌≡◌, refl, sym, ap, ap₂, ◌∙◌, subst}
use mathlib.Core.Logic.{inl, inr}
use mathlib.Core.Bool.{Bool, true, false}
use mathlib.Core.List.{List}
use native.Mathlib.Omega.{arith}
use Rattle.determined.specs.Determined.{Determines}
use lib.ListN.{get_or, replicate}
use lib.Seq.{ext_get_or}
use lib.Dec.{eqb}
use borrow.Author.Tests.{eqb-true, eqb-false}
use Rattle.rules.specs.Rules.{Relations}
use Rattle.rules.proofs.Promises.{determined, one_class}
use Rattle.tables.specs.declared.MessageRow.{MessageRow}
use Rattle.tables.specs.declared.Tables.{Tables}
use Rattle.tables.specs.Tables.{messages_of_lem}
use Rattle.tables.specs.Cells.{relations_of_tables}
use Rattle.protocol.specs.Reading.{read_protocol_lem}
use Rattle.reading_laws.proofs.bounds.Bounds.{protocol-low}
use Rattle.answers.specs.declared.Answer.{Answer}
use Rattle.answers.specs.declared.PrintedBytes.{PrintedBytes}
use Rattle.plan.specs.program.Printed.{PlanPrinted}
use Rattle.answers.specs.Answers.{Listed}
use Rattle.answers.specs.unlisted.Unlisted.{answer_of}
use Rattle.answers.proofs.Told.{NeedsSome, refused-needs, listed-needs, answer-injective}
use Rattle.answers.proofs.Determined.{refusal-determined, listed-determined}
use Rattle.plan_listing.specs.PlanText.{class_three, class_two}
use Rattle.plan.specs.Call.{Three, Two, PlanListing, PlanCall}
use Rattle.plan.specs.Determined.{PlanDetermined, PlanResultDetermined}
use Rattle.text.specs.Written.{Wrote}
use Rattle.text.proofs.Determined.{wrote-determined}
use Rattle.plan.specs.program.Determined.{PlanPrintedDetermined}

-- ---- the listing

three-one : (ms : List MessageRow) (p : Relations) (l m : List ℕ) → Three ms p l → Three ms p m → l ≡ m
three-one ms p l m v w =
    let ns = ext_get_or 0 v.networks w.networks (v.long ∙ sym w.long)
    (λ i h. determined.mapping p (λ m. get_or v.networks m 0) (λ m. get_or w.networks m 0) v.printed w.printed i (omega (arith, h, v.long))) in
    v.is ∙ ap₂ (class_three ms) ns (determined.least_count p v.count w.count v.least w.least) ∙ sym w.is

two-one : (ms : List MessageRow) (p : Relations) (l m : List ℕ) → Two ms p l → Two ms p m → l ≡ m
two-one ms p l m v w = v.is ∙ ap (class_two ms) (determined.plan_cycle p v.cycle w.cycle v.shown w.shown) ∙ sym w.is

pub listing-one : (t : Tables) (l m : List ℕ) → PlanListing t l → PlanListing t m → l ≡ m
listing-one t l m (inl v) (inl w) = three-one (messages_of_lem t) (relations_of_tables t) l m v w
listing-one t l m (inl v) (inr w) = absurd (one_class (relations_of_tables t) w.cycle v.count w.shown v.least)
listing-one t l m (inr v) (inl w) = absurd (one_class (relations_of_tables t) v.cycle w.count v.shown w.least)
listing-one t l m (inr v) (inr w) = two-one t.messages (relations_of_tables t) l m v w

-- ---- the call

pub plan-determined : PlanDetermined
plan-determined text old new₁ new₂ r s c d = go (eqb (read_protocol_lem text).refusal.number 0) refl
  where
    go : (b : Bool) → eqb (read_protocol_lem text).refusal.number 0 ≡ b → (r ≡ s) × (new₁ ≡ new₂)
    go true e =
        let z = eqb-true (read_protocol_lem text).refusal.number 0 e in
        let v = c.planned z in
        let w = d.planned z in
        let same = listing-one (read_protocol_lem text).tables w.listing v.listing w.allowed v.allowed in
        listed-determined v.listing old new₁ new₂ r s v.listed (subst (λ (l : List ℕ). Listed l old new₂ s) same w.listed)
    go false e =
        let n = eqb-false (read_protocol_lem text).refusal.number 0 e in
        refusal-determined (read_protocol_lem text).refusal 0 old new₁ new₂ r s (c.refused n) (d.refused n)

-- an answer with 16 tells the length of a listing, for no protocol is refused with 16
plan-needs : (text old new : List ℕ) (r : Answer) → PlanCall text old new r → NeedsSome r
plan-needs text old new r c = go (eqb (read_protocol_lem text).refusal.number 0) refl
  where
    go : (b : Bool) → eqb (read_protocol_lem text).refusal.number 0 ≡ b → NeedsSome r
    go true e = let p = c.planned (eqb-true (read_protocol_lem text).refusal.number 0 e) in listed-needs p.listing old new r p.listed
    go false e =
        refused-needs (read_protocol_lem text).refusal 0 old new r (protocol-low text).0 (c.refused (eqb-false (read_protocol_lem text).refusal.number 0 e))

pub plan-result-determined : PlanResultDetermined
plan-result-determined text old new₁ new₂ r s c d =
    let q = plan-determined text old new₁ new₂ (answer_of r) (answer_of s) c d in
    (answer-injective r s (plan-needs text old new₁ (answer_of r) c) q.0, q.1)

-- ---- what the program prints

pub printed-determined : PlanPrintedDetermined
printed-determined text old new₁ new₂ j k v w =
    wrote-determined v.printed old new₁ new₂ j k v.wrote (subst (λ (l : List ℕ). Wrote l old new₂ k) (same (eqb (read_protocol_lem text).refusal.number 0) refl) w.wrote)
  where
    same : (b : Bool) → eqb (read_protocol_lem text).refusal.number 0 ≡ b → w.printed ≡ v.printed
    same true e =
        let z = eqb-true (read_protocol_lem text).refusal.number 0 e in
        listing-one (read_protocol_lem text).tables w.printed v.printed (w.planned z) (v.planned z)
    same false e = let n = eqb-false (read_protocol_lem text).refusal.number 0 e in w.refused n ∙ sym (v.refused n)

-- by value
pub print-determined : (text : List ℕ) → Determines (λ (r : PrintedBytes). PlanPrinted text (replicate 4096 0) r.bytes r.length)
print-determined text r s v w = let q = printed-determined text (replicate 4096 0) r.bytes s.bytes r.length s.length v w in same q.0 q.1
  where
    same : {m n : ℕ} {a b : List ℕ} → m ≡ n → a ≡ b → ◌≡◌ {A = PrintedBytes} (record { bytes = a; length = m }) (record { bytes = b; length = n })
    same e f = cc
