-- The contracts of this crate leave one plan, and one judgement.
use Prim.Native.Nat.{ℕ, ◌-◌}
use mathlib.Core.Path.{◌≡◌, refl, sym, ap, ap₂, ◌∙◌}
use mathlib.Core.List.{List, [], ◌∷◌, ◌++◌, map}
use native.Mathlib.Omega.{arith}
use lib.ListN.{length, get_or, take, replicate, take-append-drop}
use lib.Seq.{ext_get_or}
use Rattle.determined.specs.Determined.{Determines}
use Rattle.rules.specs.declared.Message.{Message}
use Rattle.rules.specs.declared.Network.{Network}
use Rattle.rules.specs.Rules.{Relations, Mapping, Fit}
use Rattle.rules.proofs.Promises.{determined, one_class, shown-is-real}
use Rattle.rows.specs.Determined.{Words}
use Rattle.rows.proofs.Determined.{words-one}
use Rattle.tables.specs.declared.Tables.{Tables}
use Rattle.tables.specs.Cells.{relations_of_tables, number as message_number}
use Rattle.plan_listing.specs.PlanText.{network_number, first_messages, first_networks}
use Rattle.std.specs.Prelude.{Option, Some, None, MatchOption}
use Rattle.verdicts.specs.declared.ShownCycle.{ShownCycle}
use Rattle.verdicts.specs.declared.PlanFound.TheVariants.{Ranked, Cyclic}
use Rattle.verdicts.specs.declared.JudgementFound.{JudgementFound}
use Rattle.rules.specs.Numbers.{as_message, as_network}
use Rattle.verdicts.specs.Verdicts.{cleared_message, NetworksPast, StoredCycle, cycle_of, PlanIs, ThreeFound, TwoFound, mapping_of_lem, Unfitting, JudgementIs}

-- ---- arrays, by their first numbers and what is past them

as-messages : (l : List Message) → map as_message (map message_number l) ≡ l
as-messages [] = refl
as-messages (m ∷ l) = ap (λ (k : List Message). m ∷ k) (as-messages l)

as-networks : (l : List Network) → map as_network (map network_number l) ≡ l
as-networks [] = refl
as-networks (n ∷ l) = ap (λ (k : List Network). n ∷ k) (as-networks l)

networks-one : (n : ℕ) (l m : List Network) → first_networks n l ≡ first_networks n m → NetworksPast n l → NetworksPast n m → l ≡ m
unfolding first_networks
networks-one n l m f p q =
    sym (take-append-drop n l)
    ∙ ap₂ ◌++◌ (sym (as-networks (take n l)) ∙ ap (map as_network) f ∙ as-networks (take n m)) (p ∙ sym q)
    ∙ take-append-drop n m

-- the same cycle is stored in one way
stored_one : (j k : ℕ) (l m : List Message) → StoredCycle j l → StoredCycle k m → first_messages j l ≡ first_messages k m → (j ≡ k) × (l ≡ m)
unfolding first_messages
stored_one j k l m p q f =
    let e = sym p.long ∙ ap length f ∙ q.long in (
      e,
      sym (take-append-drop j l)
          ∙ ap₂ ◌++◌ (sym (as-messages (take j l)) ∙ ap (map as_message) f ∙ as-messages (take k m)) (p.past ∙ ap (λ (i : ℕ). replicate (64 - i) cleared_message) e ∙ sym q.past)
          ∙ take-append-drop k m,
    )

same-cycle : (c d : ShownCycle) → StoredCycle c.length c.messages → StoredCycle d.length d.messages → cycle_of c ≡ cycle_of d → c ≡ d
same-cycle c d p q f =
    let e = stored_one c.length d.length c.messages d.messages p q f in
    let t : ◌≡◌ {A = ShownCycle} (record { length = c.length; messages = c.messages }) (record { length = d.length; messages = d.messages }) = remade e.0 e.1 in
    t
  where
    remade : {j k : ℕ} {l m : List Message} → j ≡ k → l ≡ m → ◌≡◌ {A = ShownCycle} (record { length = j; messages = l }) (record { length = k; messages = m })
    remade a b = cc

-- ---- a plan

module _ (p : Relations) where
  three-one : (j k : ℕ) (l m : List Network) → ThreeFound p j l → ThreeFound p k m → Ranked j l ≡ Ranked k m
  three-one j k l m f g = ap₂ Ranked (determined.least_count p j k f.least g.least) (networks-one p.count l m first f.networks_past g.networks_past)
    where
      first : first_networks p.count l ≡ first_networks p.count m
      first =
          ext_get_or 0 (first_networks p.count l) (first_networks p.count m) (f.long ∙ sym g.long)
          (λ i h. determined.mapping p (λ i. get_or (first_networks p.count l) i 0) (λ i. get_or (first_networks p.count m) i 0) f.printed g.printed i (omega (arith, f.long)))

  two-one : (c d : ShownCycle) → TwoFound p c → TwoFound p d → Cyclic c ≡ Cyclic d
  two-one c d f g = ap Cyclic (same-cycle c d f.stored g.stored (determined.plan_cycle p (cycle_of c) (cycle_of d) f.cycle g.cycle))

  plan-one : Determines (PlanIs p)
  plan-one (Ranked j l) (Ranked k m) f g = three-one j k l m f g
  plan-one (Ranked j l) (Cyclic d) f g = absurd (one_class p (cycle_of d) j g.cycle f.least)
  plan-one (Cyclic c) (Ranked k m) f g = absurd (one_class p (cycle_of c) k f.cycle g.least)
  plan-one (Cyclic c) (Cyclic d) f g = two-one c d f g

pub plan-of-determined : (t : Tables) → Determines (PlanIs (relations_of_tables t))
plan-of-determined t = plan-one (relations_of_tables t)

-- ---- a judgement

same-judgement : (r s : JudgementFound) → r.cycle ≡ s.cycle → r.waits ≡ s.waits → r ≡ s
same-judgement r s a b =
    let t : ◌≡◌ {A = JudgementFound}
    (record { cycle = r.cycle; waits = r.waits })
    (record { cycle = s.cycle; waits = s.waits }) = cc
    in t

module _ (p : Relations) (φ : Mapping) where
  cycle-one : (q o : Option ShownCycle) → MatchOption q (Fit p φ) (Unfitting p φ) → MatchOption o (Fit p φ) (Unfitting p φ) → q ≡ o
  cycle-one None None f g = refl
  cycle-one None (Some d) f g = absurd (f ((shown-is-real p).1 φ (cycle_of d) g.cycle))
  cycle-one (Some c) None f g = absurd (g ((shown-is-real p).1 φ (cycle_of c) f.cycle))
  cycle-one (Some c) (Some d) f g = ap Some (same-cycle c d f.stored g.stored (determined.judge_cycle p φ (cycle_of c) (cycle_of d) f.cycle g.cycle))

  -- their rows are arrays of words
  judgement-one : (r s : JudgementFound) → Words 64 64 r.waits → Words 64 64 s.waits → JudgementIs p φ r → JudgementIs p φ s → r ≡ s
  judgement-one r s u v f g = same-judgement r s (cycle-one r.cycle s.cycle f.verdict g.verdict) (words-one 64 64 _ r.waits s.waits u v f.waits g.waits)

pub judge-of-determined : (t : Tables) (networks : List Network)
    → Determines (λ (r : JudgementFound). Words 64 64 r.waits × JudgementIs (relations_of_tables t) (mapping_of_lem networks) r)
judge-of-determined t networks r s f g = judgement-one (relations_of_tables t) (mapping_of_lem networks) r s f.0 g.0 f.1 g.1
