-- The promises for texts hold: demand 3 through the calls.
use Prim.Native.Nat.{ℕ, ◌-◌, ◌<◌, ◌≤◌}
use mathlib.Core.Path.{◌≡◌, sym, ap, ◌∙◌, subst}
use mathlib.Core.Logic.{inl, inr, ⊎_elim}
use mathlib.Core.List.{List, ◌++◌}
use native.Mathlib.Omega.{arith}
use lib.ListN.{length, get_or, replicate, get_or-map}
use lib.Seq.{length-take-le, get_or-take}
use Rattle.rules.specs.declared.Network.{Network}
use Rattle.rules.specs.Numbers.{as_network}
use Rattle.rules.specs.Rules.{MessageNo, Relations, Waits, Fit}
use Rattle.rules.specs.Plan.{Height, LeastCount, Printed, Uses, LongestChain}
use Rattle.rules.proofs.Promises.{every-printed, shown-is-real, cycle-is-unfit}
use Rattle.text.specs.Name.{name_rule, name_text}
use Rattle.tables.specs.declared.MessageRow.{MessageRow}
use Rattle.tables.specs.declared.Tables.{Tables}
use Rattle.tables.specs.Tables.{no_message_row, messages_of_lem}
use Rattle.tables.specs.Cells.{relations_of_tables}
use Rattle.protocol.specs.Reading.{read_protocol_lem}
use Rattle.reading_laws.specs.protocols.Promises.{AcceptedReading}
use Rattle.reading_laws.proofs.protocols.Accepted.{accepted-kept}
use Rattle.mapping.specs.Mapped.{Mapped}
use Rattle.mapping.specs.Reading.{maps_accepted}
use Rattle.mapping.specs.Headers.{Header, header1, header2}
use Rattle.mapping.specs.Text.{mapping_text, Writable}
use Rattle.reading_laws.proofs.mappings.RoundTrip.{reads-back-1, reads-back-2}
use Rattle.reading_laws.proofs.mappings.Why.{pad-at}
use Rattle.answers.specs.Answers.{Listed}
use Rattle.plan_listing.specs.PlanText.{class_three}
use Rattle.verdicts.specs.Verdicts.{mapping_of_lem}
use Rattle.reading_laws.specs.bounds.Bounds.{Named}
use Rattle.reading_laws.proofs.bounds.NamesKept.{names-kept}
use Rattle.plan.proofs.PlanLongest.{networks-below}
use Rattle.plan.specs.Call.{Three, Two}
use Rattle.judge.specs.Call.{FitListing, UnfitListing}
use Rattle.promises.specs.Promises.{tables_of, mapped, JudgedFit, JudgedUnfit, TextUses, KeptUnder, ThreeKept, TwoKept, PlansKept}

-- ---- an accepted protocol

module _ (x : List ℕ) (e : (read_protocol_lem x).refusal.number ≡ 0) where
  abbrev t : Tables
  t = (read_protocol_lem x).tables

  abbrev p : Relations
  p = relations_of_tables t

  good : AcceptedReading (read_protocol_lem x)
  good = accepted-kept x e

  rows : Named t
  rows = names-kept x e

  few : t.message_count ≤ 64
  few = good.kept.ok.messages

  abbrev ms : List MessageRow
  ms = messages_of_lem t

  many : length ms ≡ t.message_count
  many = length-take-le t.message_count t.messages (omega (arith, few, rows.long))

  -- ---- judgements

  judged-fit : (y : List ℕ) → (mapped x y).refusal.number ≡ 0 → Fit p (mapping_of_lem (mapped x y).networks) → JudgedFit x y
  judged-fit y a fit old new r c =
      let j = (c.protocol_accepted e).judged a in
      ⊎_elim (λ (w : FitListing p (mapping_of_lem (mapped x y).networks) j.listing). subst (λ (l : List ℕ). Listed l old new r) w.is j.listed)
      (λ (w : UnfitListing t.messages p (mapping_of_lem (mapped x y).networks) j.listing). absurd (fit w.unfit)) j.allowed

  judged-unfit : (y : List ℕ) → (mapped x y).refusal.number ≡ 0 → (Fit p (mapping_of_lem (mapped x y).networks) → ⊥) → JudgedUnfit x y
  judged-unfit y a no-fit old new r c =
      let j = (c.protocol_accepted e).judged a in
      ⊎_elim (λ (w : FitListing p (mapping_of_lem (mapped x y).networks) j.listing). absurd (no-fit w.fit))
      (λ (w : UnfitListing t.messages p (mapping_of_lem (mapped x y).networks) j.listing). (w.steps, subst (λ (l : List ℕ). Listed l old new r) w.is j.listed)) j.allowed

  -- ---- class 2

  two-kept : (listing : List ℕ) → Two t.messages p listing → TwoKept x listing
  two-kept listing w =
      record {
        cycle = w.cycle;
        is = w.is;
        every_unfit = λ y a. judged-unfit y a (λ fit. fit (cycle-is-unfit p ((shown-is-real p).0 w.cycle w.shown) (mapping_of_lem (mapped x y).networks)));
      }

  -- ---- class 3

  module _ (ns : List ℕ) (k : ℕ) (long : length ns ≡ t.message_count) (printed : Printed p (λ m. get_or ns m 0)) (least : LeastCount p k) where
    -- they can be written under a header that allows so many messages
    writable : (most : ℕ) → t.message_count ≤ most → Writable most ms ns
    writable most h =
        record {
          few = omega (arith, h, many);
          long = long ∙ sym many;
          named = λ i h. ap (λ (row : MessageRow). name_rule (name_text row.name)) (get_or-take t.message_count t.messages i no_message_row (omega (arith, h, many))) ∙ rows.names i (omega (arith, h, many));
          below = networks-below p good.relations most h k least ns long printed;
        }

    -- written as a text that reads back
    module _ (header : Header) (back : mapped x (mapping_text header ms ns) ≡ maps_accepted ns) where
      abbrev text : List ℕ
      text = mapping_text header ms ns

      same : (m : MessageNo) → m < t.message_count → get_or ns m 0 ≡ mapping_of_lem (mapped x text).networks m
      same m h =
          sym (ap (λ (r : Mapped). (get_or r.networks m (as_network 0)).0) back
          ∙ ap (λ (n : Network). n.0) (get_or-map as_network (ns ++ replicate (64 - length ns) 0) m 0) ∙ pad-at ns (64 - length ns) m)

      printed-text : Printed p (mapping_of_lem (mapped x text).networks)
      printed-text m h = subst (Height (Waits p) m) (same m h) (printed m h)

      kept : Fit p (mapping_of_lem (mapped x text).networks) × Uses p.count (mapping_of_lem (mapped x text).networks) k × LongestChain p k
      kept = every-printed p good.relations (mapping_of_lem (mapped x text).networks) k printed-text least

      kept_under : KeptUnder header x ns k
      kept_under =
          let a : (mapped x text).refusal.number ≡ 0 = ap (λ (r : Mapped). r.refusal.number) back in
          record { accepted = a; fit = judged-fit text a kept.0; reached = kept.1 }

    fewer : (y : List ℕ) (j : ℕ) → (mapped x y).refusal.number ≡ 0 → TextUses x y j → j < k → JudgedUnfit x y
    fewer y j a u h = judged-unfit y a (λ fit. omega (arith, h, least.least (mapping_of_lem (mapped x y).networks) j fit u))

    back-2 : mapped x (mapping_text header2 ms ns) ≡ maps_accepted ns
    back-2 = reads-back-2 ms ns (writable 64 few)

    three : (listing : List ℕ) → listing ≡ class_three ms ns k → ThreeKept x listing
    three listing is =
        record {
          networks = ns;
          count = k;
          is = is;
          under_2 = kept_under header2 back-2;
          under_1 = λ h. kept_under header1 (reads-back-1 ms ns (writable 32 h));
          fewer_unfit = fewer;
          chain = (kept header2 back-2).2;
        }

  three-kept : (listing : List ℕ) → Three ms p listing → ThreeKept x listing
  three-kept listing w = three w.networks w.count w.long w.printed w.least listing w.is

pub plans-kept : PlansKept
plans-kept x old new r c e =
    let q = c.planned e in
    (q.listing, q.listed, ⊎_elim (λ (w : Three (messages_of_lem (tables_of x)) (relations_of_tables (tables_of x)) q.listing). inl (three-kept x e q.listing w)) (λ (w : Two (tables_of x).messages (relations_of_tables (tables_of x)) q.listing). inr (two-kept x e q.listing w)) q.allowed)
