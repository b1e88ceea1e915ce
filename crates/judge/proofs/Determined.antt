-- The judging call is determined: answer and lent bytes.
use Prim.Native.Nat.{ℕ}
use mathlib.Core.Path.{◌≡◌, refl, sym, ap, ap₂, ◌∙◌, subst}
use mathlib.Core.Logic.{inl, inr}
use mathlib.Core.Bool.{Bool, true, false}
use mathlib.Core.List.{List, [], ◌∷◌, ◌++◌}
use lib.Dec.{eqb}
use borrow.Author.Tests.{eqb-true, eqb-false}
use Rattle.rules.specs.Rules.{MessageNo, Relations, Mapping}
use Rattle.rules.specs.Plan.{Says}
use Rattle.rules.proofs.Promises.{determined}
use Rattle.tables.specs.declared.MessageRow.{MessageRow}
use Rattle.tables.specs.declared.Tables.{Tables}
use Rattle.tables.specs.Tables.{messages_of_lem}
use Rattle.tables.specs.Cells.{relations_of_tables}
use Rattle.protocol.specs.Reading.{read_protocol_lem}
use Rattle.reading_laws.proofs.bounds.Bounds.{protocol-low, mapping-low}
use Rattle.answers.specs.declared.Answer.{Answer}
use lib.ListN.{replicate}
use Rattle.determined.specs.Determined.{Determines}
use Rattle.answers.specs.declared.PrintedBytes.{PrintedBytes}
use Rattle.answers.specs.Answers.{Listed}
use Rattle.answers.specs.unlisted.Unlisted.{answer_of}
use Rattle.answers.proofs.Told.{NeedsSome, refused-needs, listed-needs, answer-injective}
use Rattle.judge_listing.specs.JudgeText.{ShownStep, unfit_text}
use Rattle.verdicts.specs.Verdicts.{mapping_of_lem}
use Rattle.answers.proofs.Determined.{refusal-determined, listed-determined}
use Rattle.judge.specs.Call.{Shows, ShowsAll, UnfitListing, JudgeListing, JudgementWritten, mapped_for, AfterProtocol, JudgeCall}
use Rattle.judge.specs.Determined.{JudgeDetermined, JudgeResultDetermined}
use Rattle.text.specs.Written.{Wrote}
use Rattle.text.proofs.Determined.{wrote-determined}
use Rattle.judge.specs.program.Printed.{MappingPrinted, JudgePrinted}
use Rattle.judge.specs.program.Determined.{JudgePrintedDetermined}

-- ---- the steps

step-one : (p : Relations) (φ : Mapping) (a b : MessageNo) (s t : ShownStep) →
    s.from ≡ a → s.to ≡ b → Says p φ a s.word b → t.from ≡ a → t.to ≡ b → Says p φ a t.word b → s ≡ t
step-one p φ a b s t sf st sw tf tt tw =
    let w = determined.word p φ a b s.word t.word sw tw in
    λ i. record { from = (sf ∙ sym tf) i; word = w i; to = (st ∙ sym tt) i }

steps-one : (p : Relations) (φ : Mapping) (a : MessageNo) (l : List MessageNo) (ss ts : List ShownStep) → Shows p φ a l ss → Shows p φ a l ts → ss ≡ ts
steps-one p φ a [] [] [] v w = refl
steps-one p φ a [] [] (t ∷ ts) v w = absurd w
steps-one p φ a [] (s ∷ ss) ts v w = absurd v
steps-one p φ a (b ∷ l) [] ts v w = absurd v
steps-one p φ a (b ∷ l) (s ∷ ss) [] v w = absurd w
steps-one p φ a (b ∷ l) (s ∷ ss) (t ∷ ts) v w =
    ap₂ (λ (x : ShownStep) (xs : List ShownStep). x ∷ xs) (step-one p φ a b s t v.0 v.1 v.2 w.0 w.1 w.2) (steps-one p φ b l ss ts v.3 w.3)

all_one : (p : Relations) (φ : Mapping) (c : List MessageNo) (ss ts : List ShownStep) → ShowsAll p φ c ss → ShowsAll p φ c ts → ss ≡ ts
all_one p φ [] ss ts v w = absurd v
all_one p φ (a ∷ l) ss ts v w = steps-one p φ a (l ++ (a ∷ [])) ss ts v w

-- ---- the listing

unfit-one : (ms : List MessageRow) (p : Relations) (φ : Mapping) (l m : List ℕ) → UnfitListing ms p φ l → UnfitListing ms p φ m → l ≡ m
unfit-one ms p φ l m v w =
    let c = determined.judge_cycle p φ v.cycle w.cycle v.shown w.shown in
    let ss = all_one p φ w.cycle v.steps w.steps (subst (λ (c : List MessageNo). ShowsAll p φ c v.steps) c v.said) w.said in
    v.is ∙ ap (unfit_text ms) ss ∙ sym w.is

pub listing-one : (t : Tables) (φ : Mapping) (l m : List ℕ) → JudgeListing t φ l → JudgeListing t φ m → l ≡ m
listing-one t φ l m (inl v) (inl w) = v.is ∙ sym w.is
listing-one t φ l m (inl v) (inr w) = absurd (v.fit w.unfit)
listing-one t φ l m (inr v) (inl w) = absurd (w.fit v.unfit)
listing-one t φ l m (inr v) (inr w) = unfit-one t.messages (relations_of_tables t) φ l m v w

-- ---- the call

judged-one : (t : Tables) (φ : Mapping) (old new₁ new₂ : List ℕ) (r s : Answer) → JudgementWritten t φ old new₁ r → JudgementWritten t φ old new₂ s → (r ≡ s) × (new₁ ≡ new₂)
judged-one t φ old new₁ new₂ r s v w =
    let same = listing-one t φ w.listing v.listing w.allowed v.allowed in
    listed-determined v.listing old new₁ new₂ r s v.listed (subst (λ (l : List ℕ). Listed l old new₂ s) same w.listed)

after_one : (t : Tables) (y old new₁ new₂ : List ℕ) (r s : Answer) → AfterProtocol t y old new₁ r → AfterProtocol t y old new₂ s → (r ≡ s) × (new₁ ≡ new₂)
after_one t y old new₁ new₂ r s c d = go (eqb (mapped_for t y).refusal.number 0) refl
  where
    go : (b : Bool) → eqb (mapped_for t y).refusal.number 0 ≡ b → (r ≡ s) × (new₁ ≡ new₂)
    go true e =
        let a = eqb-true (mapped_for t y).refusal.number 0 e in
        judged-one t (mapping_of_lem (mapped_for t y).networks) old new₁ new₂ r s (c.judged a) (d.judged a)
    go false e =
        let n = eqb-false (mapped_for t y).refusal.number 0 e in
        refusal-determined (mapped_for t y).refusal 1 old new₁ new₂ r s (c.mapping_refused n) (d.mapping_refused n)

pub judge-determined : JudgeDetermined
judge-determined x y old new₁ new₂ r s c d = go (eqb (read_protocol_lem x).refusal.number 0) refl
  where
    go : (b : Bool) → eqb (read_protocol_lem x).refusal.number 0 ≡ b → (r ≡ s) × (new₁ ≡ new₂)
    go true e =
        let z = eqb-true (read_protocol_lem x).refusal.number 0 e in
        after_one (read_protocol_lem x).tables y old new₁ new₂ r s (c.protocol_accepted z) (d.protocol_accepted z)
    go false e =
        let n = eqb-false (read_protocol_lem x).refusal.number 0 e in
        refusal-determined (read_protocol_lem x).refusal 0 old new₁ new₂ r s (c.protocol_refused n) (d.protocol_refused n)

-- an answer with 16 tells the length of a listing, for no protocol and no mapping is refused with 16
after-needs : (t : Tables) (y old new : List ℕ) (r : Answer) → AfterProtocol t y old new r → NeedsSome r
after-needs t y old new r c = go (eqb (mapped_for t y).refusal.number 0) refl
  where
    go : (b : Bool) → eqb (mapped_for t y).refusal.number 0 ≡ b → NeedsSome r
    go true e = let j = c.judged (eqb-true (mapped_for t y).refusal.number 0 e) in listed-needs j.listing old new r j.listed
    go false e =
        refused-needs (mapped_for t y).refusal 1 old new r (mapping-low (messages_of_lem t) y).0 (c.mapping_refused (eqb-false (mapped_for t y).refusal.number 0 e))

judge-needs : (x y old new : List ℕ) (r : Answer) → JudgeCall x y old new r → NeedsSome r
judge-needs x y old new r c = go (eqb (read_protocol_lem x).refusal.number 0) refl
  where
    go : (b : Bool) → eqb (read_protocol_lem x).refusal.number 0 ≡ b → NeedsSome r
    go true e = after-needs (read_protocol_lem x).tables y old new r (c.protocol_accepted (eqb-true (read_protocol_lem x).refusal.number 0 e))
    go false e = refused-needs (read_protocol_lem x).refusal 0 old new r (protocol-low x).0 (c.protocol_refused (eqb-false (read_protocol_lem x).refusal.number 0 e))

pub judge-result-determined : JudgeResultDetermined
judge-result-determined x y old new₁ new₂ r s c d =
    let q = judge-determined x y old new₁ new₂ (answer_of r) (answer_of s) c d in
    (answer-injective r s (judge-needs x y old new₁ (answer_of r) c) q.0, q.1)

-- ---- what the program prints

mapping-printed-one : (t : Tables) (y l m : List ℕ) → MappingPrinted t y l → MappingPrinted t y m → l ≡ m
mapping-printed-one t y l m v w = go (eqb (mapped_for t y).refusal.number 0) refl
  where
    go : (b : Bool) → eqb (mapped_for t y).refusal.number 0 ≡ b → l ≡ m
    go true e = let a = eqb-true (mapped_for t y).refusal.number 0 e in listing-one t (mapping_of_lem (mapped_for t y).networks) l m (v.judged a) (w.judged a)
    go false e = let n = eqb-false (mapped_for t y).refusal.number 0 e in v.mapping_refused n ∙ sym (w.mapping_refused n)

pub printed-determined : JudgePrintedDetermined
printed-determined x y old new₁ new₂ j k v w =
    wrote-determined v.printed old new₁ new₂ j k v.wrote (subst (λ (l : List ℕ). Wrote l old new₂ k) (same (eqb (read_protocol_lem x).refusal.number 0) refl) w.wrote)
  where
    same : (b : Bool) → eqb (read_protocol_lem x).refusal.number 0 ≡ b → w.printed ≡ v.printed
    same true e =
        let z = eqb-true (read_protocol_lem x).refusal.number 0 e in
        mapping-printed-one (read_protocol_lem x).tables y w.printed v.printed (w.protocol_accepted z) (v.protocol_accepted z)
    same false e = let n = eqb-false (read_protocol_lem x).refusal.number 0 e in w.protocol_refused n ∙ sym (v.protocol_refused n)

-- by value
pub print-determined : (protocol mapping : List ℕ) → Determines (λ (r : PrintedBytes). JudgePrinted protocol mapping (replicate 4096 0) r.bytes r.length)
print-determined x y r s v w = let q = printed-determined x y (replicate 4096 0) r.bytes s.bytes r.length s.length v w in same q.0 q.1
  where
    same : {m n : ℕ} {a b : List ℕ} → m ≡ n → a ≡ b → ◌≡◌ {A = PrintedBytes} (record { bytes = a; length = m }) (record { bytes = b; length = n })
    same e f = cc
