-- What was answered and written is what is printed.
use Prim.Native.Nat.{ℕ, ◌<◌, ◌≤◌}
use mathlib.Core.Path.{◌≡◌, refl, sym, ap, ◌∙◌, subst, ap₂}
use mathlib.Core.Logic.{◌≢◌}
use mathlib.Core.Bool.{Bool, true, false}
use mathlib.Core.List.{List}
use native.Mathlib.Omega.{arith}
use lib.ListN.{length}
use lib.Dec.{eqb}
use borrow.Author.Tests.{eqb-true, eqb-false}
use Rattle.text.specs.Written.{Wrote}
use Rattle.tables.specs.declared.Tables.{Tables}
use Rattle.tables.specs.Tables.{messages_of_lem}
use Rattle.protocol.specs.Reading.{read_protocol_lem}
use Rattle.mapping.specs.Mapped.{Mapped}
use Rattle.reading_laws.specs.bounds.Bounds.{Low}
use Rattle.reading_laws.proofs.bounds.Bounds.{protocol-low, mapping-low}
use Rattle.papers.specs.declared.Refusal.{Refusal}
use Rattle.answers.specs.declared.Answer.{Answer}
use Rattle.answers.specs.Answers.{Refused}
use Rattle.answers.specs.refused_text.RefusedText.{refused_text_lem}
use Rattle.answers.proofs.refused_text.RefusedLength.{refused-short}
use Rattle.verdicts.specs.Verdicts.{mapping_of_lem}
use Rattle.answers.proofs.Listings.{listed-wrote, refused-parts}
use Rattle.judge.specs.Call.{JudgementWritten, mapped_for, JudgeCall}
use Rattle.judge.specs.program.Printed.{JudgePrinted}
use Rattle.judge.proofs.JudgeLongest.{judge-length}

-- ---- the three answers

-- A refusal of one of the papers: `why` is that of its reading.
record Stopped (why : Refusal) (paper : ℕ) (old new : List ℕ) (r : Answer) : Type 0 where
  refusal : Refused why paper old new r
  low : Low why
  some : why.number ≢ 0
  paper_low : paper < 10

module _ (x y old new : List ℕ) (r : Answer) (room : 4096 ≤ length old) (c : JudgeCall x y old new r) where
  abbrev t : Tables
  t = (read_protocol_lem x).tables

  abbrev m : Mapped
  m = mapped_for t y

  data Answered : Type 0 where
    bad-protocol : Stopped (read_protocol_lem x).refusal 0 old new r → Answered
    bad-mapping : (read_protocol_lem x).refusal.number ≡ 0 → Stopped m.refusal 1 old new r → Answered
    judgement : (read_protocol_lem x).refusal.number ≡ 0 → m.refusal.number ≡ 0 → JudgementWritten t (mapping_of_lem m.networks) old new r → Answered

  answered : Answered
  answered = go (eqb (read_protocol_lem x).refusal.number 0) refl
    where
      after : (read_protocol_lem x).refusal.number ≡ 0 → (b : Bool) → eqb m.refusal.number 0 ≡ b → Answered
      after z true e = let a = eqb-true m.refusal.number 0 e in judgement z a ((c.protocol_accepted z).judged a)
      after z false e =
          let n = eqb-false m.refusal.number 0 e in
          bad-mapping z (record { refusal = (c.protocol_accepted z).mapping_refused n; low = mapping-low (messages_of_lem t) y; some = n; paper_low = omega arith })

      go : (b : Bool) → eqb (read_protocol_lem x).refusal.number 0 ≡ b → Answered
      go true e = after (eqb-true (read_protocol_lem x).refusal.number 0 e) (eqb m.refusal.number 0) refl
      go false e =
          let n = eqb-false (read_protocol_lem x).refusal.number 0 e in
          bad-protocol (record { refusal = c.protocol_refused n; low = protocol-low x; some = n; paper_low = omega arith })

  -- a refusal has its number
  stopped-number : (why : Refusal) (paper : ℕ) → Stopped why paper old new r → r.refusal.number ≢ 0
  stopped-number why paper s e = s.some (sym (ap (λ (w : Refusal). w.number) (refused-parts why paper old new r s.refusal).0) ∙ e)

  -- a judgement has number 0
  judged-wrote : (z : (read_protocol_lem x).refusal.number ≡ 0) (j : JudgementWritten t (mapping_of_lem m.networks) old new r) → (r.refusal.number ≡ 0) × Wrote j.listing old new r.length
  judged-wrote z j =
      listed-wrote j.listing old new r (omega (arith, room, judge-length x j.listing (mapping_of_lem m.networks) z j.allowed)) j.listed

  pub print-listing : r.refusal.number ≡ 0 → JudgePrinted x y old new r.length
  print-listing e = go answered
    where
      go : Answered → JudgePrinted x y old new r.length
      go (bad-protocol s) = absurd (stopped-number (read_protocol_lem x).refusal 0 s e)
      go (bad-mapping z s) = absurd (stopped-number m.refusal 1 s e)
      go (judgement z a j) =
          record {
            printed = j.listing;
            protocol_refused = λ n. absurd (n z);
            protocol_accepted = λ _. record { mapping_refused = λ n. absurd (n a); judged = λ _. j.allowed };
            wrote = (judged-wrote z j).1;
          }

  -- ---- a refusal

  module _ (why : Refusal) (paper : ℕ) (s : Stopped why paper old new r) where
    parts : (r.refusal ≡ why) × (r.paper ≡ paper)
    parts = refused-parts why paper old new r s.refusal

    stopped-line : r.refusal.line < 4294967296
    stopped-line = omega (arith, ap (λ (w : Refusal). w.line) parts.0, s.low.1)

    stopped-room : length (refused_text_lem r.refusal r.paper) ≤ length new
    stopped-room =
        omega (
          arith,
          room,
          ap length s.refusal.bytes,
          refused-short r.refusal r.paper (omega (arith, ap (λ (w : Refusal). w.number) parts.0, s.low.0)) (omega (arith, parts.1, s.paper_low)) (omega (arith, ap (λ (w : Refusal). w.line) parts.0, s.low.1)) (omega (arith, ap (λ (w : Refusal). w.field) parts.0, s.low.2)),
        )

    stopped-text : refused_text_lem r.refusal r.paper ≡ refused_text_lem why paper
    stopped-text = ap₂ refused_text_lem parts.0 parts.1

  module _ (e : r.refusal.number ≢ 0) where
    pub refusal-line : r.refusal.line < 4294967296
    refusal-line = go answered
      where
        go : Answered → r.refusal.line < 4294967296
        go (bad-protocol s) = stopped-line (read_protocol_lem x).refusal 0 s
        go (bad-mapping z s) = stopped-line m.refusal 1 s
        go (judgement z a j) = absurd (e (judged-wrote z j).0)

    pub refusal-room : length (refused_text_lem r.refusal r.paper) ≤ length new
    refusal-room = go answered
      where
        go : Answered → length (refused_text_lem r.refusal r.paper) ≤ length new
        go (bad-protocol s) = stopped-room (read_protocol_lem x).refusal 0 s
        go (bad-mapping z s) = stopped-room m.refusal 1 s
        go (judgement z a j) = absurd (e (judged-wrote z j).0)

    -- no byte was changed before
    kept : new ≡ old
    kept = go answered
      where
        go : Answered → new ≡ old
        go (bad-protocol s) = s.refusal.bytes
        go (bad-mapping z s) = s.refusal.bytes
        go (judgement z a j) = absurd (e (judged-wrote z j).0)

    pub print-refusal : (new₂ : List ℕ) (n : ℕ) → Wrote (refused_text_lem r.refusal r.paper) new new₂ n → JudgePrinted x y old new₂ n
    print-refusal new₂ n w = go answered
      where
        wrote-old : Wrote (refused_text_lem r.refusal r.paper) old new₂ n
        wrote-old = subst (λ (o : List ℕ). Wrote (refused_text_lem r.refusal r.paper) o new₂ n) kept w

        go : Answered → JudgePrinted x y old new₂ n
        go (bad-protocol s) =
            record {
              printed = refused_text_lem r.refusal r.paper;
              protocol_refused = λ _. stopped-text (read_protocol_lem x).refusal 0 s;
              protocol_accepted = λ z. absurd (s.some z);
              wrote = wrote-old;
            }
        go (bad-mapping z s) =
            record {
              printed = refused_text_lem r.refusal r.paper;
              protocol_refused = λ k. absurd (k z);
              protocol_accepted = λ _. record { mapping_refused = λ _. stopped-text m.refusal 1 s; judged = λ a. absurd (s.some a) };
              wrote = wrote-old;
            }
        go (judgement z a j) = absurd (e (judged-wrote z j).0)
