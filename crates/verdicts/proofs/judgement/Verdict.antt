-- The shown cycle of the rows of steps is the judgement of a mapping.
use Prim.Native.Nat.{ℕ, ◌<◌, ◌≤◌}
use mathlib.Core.Path.{◌≡◌, sym, subst}
use mathlib.Core.Logic.{inl, inr, ⊎_elim, ◌↔◌}
use mathlib.Core.List.{List, [], ◌∷◌, ◌++◌, map}
use native.Mathlib.Omega.{arith}
use lib.ListN.{get_or, take, replicate}
use Rattle.rules.specs.declared.Message.{Message}
use Rattle.rules.specs.Walks.{Rel, Begins}
use Rattle.rules.specs.Rules.{Relations, Mapping, Waits, Queues, Step, Fit}
use Rattle.rules.specs.Plan.{Closed, JudgeCycle}
use Rattle.rules.specs.Promises.{Accepted}
use Rattle.rules.proofs.Chains.{chain-map}
use Rattle.rules.proofs.Same.{shown-same}
use Rattle.rules.proofs.Decided.{step-within, unfit-closed}
use Rattle.rows.specs.Rows.{Bit, Rows, of_rows}
use Rattle.walks.specs.Walks.{Within, Cycle}
use Rattle.tables.specs.declared.Tables.{Tables}
use Rattle.tables.specs.Cells.{relations_of_tables, TablesOk}
use Rattle.tables.specs.Relations.{StallsRows}
use Rattle.tables.proofs.InRange.{relations-accepted, rows-stalls}
use Rattle.rules.specs.Numbers.{as_message}
use Rattle.std.specs.Option.{option_map}
use Rattle.std.specs.Prelude.{Option, Some, None, MatchOption}
use Rattle.verdicts.specs.declared.ShownCycle.{ShownCycle}
use Rattle.verdicts.specs.Verdicts.{WaitsOf, Unfitting}
use Rattle.waits.specs.steps.Steps.{StepsRows}
use Rattle.verdicts.specs.judgement.Judging.{StepsTold, JudgementOfRows}
use Rattle.verdicts.proofs.Waiting.{rows-waits}
use Rattle.verdicts.proofs.Written.{cycle-first, cycle-some, cycle-stored}

-- ---- the rows of steps are those of the rules

module _ (t : Tables) (ok : TablesOk t) (some : 0 < t.message_count) (φ : Mapping) (stalls : List ℕ) (g : StallsRows t stalls) where
  queues-there : (m k : ℕ) → Queues (of_rows t.message_count [] stalls) φ m k → Queues (relations_of_tables t) φ m k
  queues-there m k q = record {
    m-message = q.m-message;
    k-message = q.k-message;
    differ = q.differ;
    share = q.share;
    stalled = (q.stalled.0, (rows-stalls t ok some stalls g q.stalled.0 k).0 q.stalled.1);
  }

  queues-back : (m k : ℕ) → Queues (relations_of_tables t) φ m k → Queues (of_rows t.message_count [] stalls) φ m k
  queues-back m k q = record {
    m-message = q.m-message;
    k-message = q.k-message;
    differ = q.differ;
    share = q.share;
    stalled = (q.stalled.0, (rows-stalls t ok some stalls g q.stalled.0 k).1 q.stalled.1);
  }

  pub steps-told : (waits steps : List ℕ) → WaitsOf (relations_of_tables t) waits → StepsRows 64 waits stalls φ t.message_count steps → StepsTold t φ steps
  steps-told waits steps w f m k h = (
    λ b. ⊎_elim (λ x. inl ((w m k).0 x)) (λ q. inr (queues-there m k q)) ((f.bits m k h).0 b),
    λ x. (f.bits m k h).1 (⊎_elim (λ y. inl ((w m k).1 y)) (λ q. inr (queues-back m k q)) x),
  )

pub steps-within : (waits stalls : List ℕ) (φ : Mapping) (n : ℕ) (steps : List ℕ) → StepsRows 64 waits stalls φ n steps → Within n waits steps
steps-within waits stalls φ n steps f a b r = record { i_below = r.i_below; j_below = r.j_below; bit = (f.bits a b r.i_below).1 (inl r.bit) }

-- ---- the verdict

-- the cycle of these messages, where there is a length
abbrev pub shown_of : List Message → Option ℕ → Option ShownCycle
shown_of messages q = option_map (λ len. record { length = len; messages = messages }) q

begins-map : (R S : Rel) → ((a b : ℕ) → R a b → S a b) → (a : ℕ) (l : List ℕ) → Begins R a l → Begins S a l
begins-map R S f a [] b = b
begins-map R S f a (x ∷ l) b = f a x b

closed-map : (W W' S S' : Rel) → ((a b : ℕ) → W a b → W' a b) → ((a b : ℕ) → S a b → S' a b) → (ms : List ℕ) → Closed W S ms → Closed W' S' ms
closed-map W W' S S' f g [] c = c
closed-map W W' S S' f g (a ∷ l) c = (begins-map W W' f a (l ++ a ∷ []) c.0, chain-map g a (l ++ a ∷ []) c.1)

module _ (p : Relations) (acc : Accepted p) (few : p.count ≤ 64) (φ : Mapping) (waits steps : List ℕ) (w : WaitsOf p waits)
    (s : (m k : ℕ) → m < p.count → Bit (get_or steps m 0) k ↔ Step p φ m k) where
  same-steps : (a b : ℕ) → Rows p.count steps a b ↔ Step p φ a b
  same-steps a b = (λ r. (s a b r.i_below).0 r.bit, λ x. let h = step-within p acc φ a b x in record { i_below = h.0; j_below = h.1; bit = (s a b h.0).1 x })

  module _ (new : List ℕ) (messages : List Message) (is : messages ≡ map as_message new) where
    verdict : (q : Option ℕ) → Cycle waits steps p.count (replicate 64 0) new q → MatchOption (shown_of messages q) (Fit p φ) (Unfitting p φ)
    verdict None c =
        λ u. let k = unfit-closed p φ u in
        c.told.none k.0
        (closed-map (Waits p) (Rows p.count waits) (Step p φ) (Rows p.count steps) (λ a b. (rows-waits p acc waits w a b).1) (λ a b. (same-steps a b).1) k.0 k.1)
    verdict (Some len) c = record {
      some = cycle-some p.count few waits steps new len c.long c.told messages is;
      stored = cycle-stored p.count few waits steps new len c.long c.told messages is;
      cycle =
          subst (JudgeCycle p φ) (sym (cycle-first p.count few waits steps new len c.long c.told messages is))
          (shown-same (Rows p.count waits) (Waits p) (Rows p.count steps) (Step p φ) (rows-waits p acc waits w) same-steps (take len new) c.told.shown);
    }

pub judged : (waits steps : List ℕ) (n : ℕ) → n ≤ 64 → (new : List ℕ) (q : Option ℕ) → Cycle waits steps n (replicate 64 0) new q → (messages : List Message) → messages ≡ map as_message new
    → JudgementOfRows waits steps n (record { cycle = shown_of messages q; waits = waits })
judged waits steps n few new q c messages is t φ ok some e w s = record {
  verdict = verdict (relations_of_tables t) (relations-accepted t ok (omega arith)) (omega arith) φ waits steps w s new messages is q (subst (λ (k : ℕ). Cycle waits steps k (replicate 64 0) new q) (sym e) c);
  waits = w;
}
