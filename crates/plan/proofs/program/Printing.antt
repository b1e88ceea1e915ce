-- What was answered and written is what is printed.
use Prim.Native.Nat.{ℕ, ◌<◌, ◌≤◌}
use mathlib.Core.Path.{◌≡◌, refl, sym, ap, ◌∙◌, subst, ap₂}
use mathlib.Core.Logic.{◌≢◌}
use mathlib.Core.Bool.{Bool, true, false}
use mathlib.Core.List.{List}
use native.Mathlib.Omega.{arith}
use lib.ListN.{length}
use lib.Dec.{eqb}
use borrow.Author.Tests.{eqb-true, eqb-false}
use Rattle.text.specs.Written.{Wrote}
use Rattle.protocol.specs.Reading.{read_protocol_lem}
use Rattle.reading_laws.proofs.bounds.Bounds.{protocol-low}
use Rattle.papers.specs.declared.Refusal.{Refusal}
use Rattle.answers.specs.declared.Answer.{Answer}
use Rattle.answers.specs.Answers.{Refused}
use Rattle.answers.proofs.Listings.{listed-wrote, refused-parts}
use Rattle.answers.specs.refused_text.RefusedText.{refused_text_lem}
use Rattle.answers.proofs.refused_text.RefusedLength.{refused-short}
use Rattle.plan.specs.Call.{PlanCall}
use Rattle.plan.specs.program.Printed.{PlanPrinted}
use Rattle.plan.proofs.PlanLongest.{plan-length}

module _ (text old new : List ℕ) (r : Answer) (room : 4096 ≤ length old) (c : PlanCall text old new r) where
  -- a plan has number 0
  accepted : (read_protocol_lem text).refusal.number ≡ 0 → r.refusal.number ≡ 0
  accepted z =
      let p = c.planned z in
      (listed-wrote p.listing old new r (omega (arith, room, plan-length text p.listing z p.allowed)) p.listed).0

  pub print-listing : r.refusal.number ≡ 0 → PlanPrinted text old new r.length
  print-listing e = go (eqb (read_protocol_lem text).refusal.number 0) refl
    where
      go : (b : Bool) → eqb (read_protocol_lem text).refusal.number 0 ≡ b → PlanPrinted text old new r.length
      go true q =
          let z = eqb-true (read_protocol_lem text).refusal.number 0 q in
          let p = c.planned z in
          record {
            printed = p.listing;
            refused = λ n. absurd (n z);
            planned = λ _. p.allowed;
            wrote = (listed-wrote p.listing old new r (omega (arith, room, plan-length text p.listing z p.allowed)) p.listed).1;
          }
      go false q =
          let n = eqb-false (read_protocol_lem text).refusal.number 0 q in
          absurd (n (sym (ap (λ (w : Refusal). w.number) (refused-parts (read_protocol_lem text).refusal 0 old new r (c.refused n)).0) ∙ e))

  module _ (e : r.refusal.number ≢ 0) where
    refusal : Refused (read_protocol_lem text).refusal 0 old new r
    refusal = c.refused (λ z. e (accepted z))

    parts : (r.refusal ≡ (read_protocol_lem text).refusal) × (r.paper ≡ 0)
    parts = refused-parts (read_protocol_lem text).refusal 0 old new r refusal

    pub refusal-line : r.refusal.line < 4294967296
    refusal-line = omega (arith, ap (λ (w : Refusal). w.line) parts.0, (protocol-low text).1)

    pub refusal-room : length (refused_text_lem r.refusal r.paper) ≤ length new
    refusal-room =
        omega (
          arith,
          room,
          ap length refusal.bytes,
          refused-short r.refusal r.paper (omega (arith, ap (λ (w : Refusal). w.number) parts.0, (protocol-low text).0)) (omega (arith, parts.1)) (omega (arith, ap (λ (w : Refusal). w.line) parts.0, (protocol-low text).1)) (omega (arith, ap (λ (w : Refusal). w.field) parts.0, (protocol-low text).2)),
        )

    pub print-refusal : (new₂ : List ℕ) (n : ℕ) → Wrote (refused_text_lem r.refusal r.paper) new new₂ n → PlanPrinted text old new₂ n
    print-refusal new₂ n w =
        record {
          printed = refused_text_lem r.refusal r.paper;
          refused = λ _. ap₂ refused_text_lem parts.0 parts.1;
          planned = λ z. absurd (e (accepted z));
          wrote = subst (λ (o : List ℕ). Wrote (refused_text_lem r.refusal r.paper) o new₂ n) refusal.bytes w;
        }
