-- What was found out and written is a judgement.
use Prim.Native.Nat.{ℕ}
use mathlib.Core.Path.{◌≡◌, refl, subst}
use mathlib.Core.Logic.{inr, ⊎_elim}
use mathlib.Core.List.{List, [], ◌∷◌, ◌++◌}
use native.Mathlib.Omega.{arith}
use lib.ListN.{length, take}
use Rattle.rules.specs.Walks.{Chain}
use Rattle.rules.specs.Rules.{MessageNo, Relations, Mapping, Waits, Queues, Step, Fit}
use Rattle.rules.specs.Plan.{Closed, Word, Says}
use Rattle.rules.proofs.Promises.{shown-is-real}
use Rattle.tables.specs.declared.Tables.{Tables}
use Rattle.tables.specs.Cells.{relations_of_tables}
use Rattle.answers.specs.declared.Answer.{Answer}
use Rattle.answers.specs.Answers.{Listed}
use Rattle.plan_listing.proofs.Lines.{have-rows}
use Rattle.judge_listing.specs.JudgeText.{unfit_text, word_in, steps_from, steps_around}
use Rattle.judge_listing.specs.Places.{GivenWalk}
use Rattle.judge_listing.proofs.Places.{word-by-bit}
use Rattle.verdicts.specs.declared.JudgementFound.{JudgementFound}
use Rattle.std.specs.Prelude.{Option, Some, MatchOption}
use Rattle.verdicts.specs.declared.ShownCycle.{ShownCycle}
use Rattle.verdicts.specs.Verdicts.{cycle_of, WaitsOf, Unfitting, JudgementIs}
use Rattle.judge.specs.Call.{Shows, ShowsAll, JudgementWritten}

-- ---- the words that the rows of waits tell

module _ (p : Relations) (φ : Mapping) (rows : List ℕ) (w : WaitsOf p rows) where
  says : (a b : MessageNo) → Step p φ a b → Says p φ a (word_in rows a b) b
  says a b s =
      word-by-bit (λ (v : Word). Says p φ a v b) rows a b (λ h. (w a b).0 h)
      (λ g. ⊎_elim (λ (h : Waits p a b). absurd (g ((w a b).1 h))) (λ (q : Queues p φ a b). (λ h. g ((w a b).1 h), q)) s)

  shows : (a : MessageNo) (l : List MessageNo) → Chain (Step p φ) a l → Shows p φ a l (steps_from (word_in rows) a l)
  unfolding steps_from
  shows a [] c = tt
  shows a (b ∷ l) c = (refl, refl, says a b c.0, shows b l c.1)

  pub shows-all : (ms : List MessageNo) → Closed (Waits p) (Step p φ) ms → ShowsAll p φ ms (steps_around (word_in rows) ms)
  unfolding steps_around
  shows-all [] c = c
  shows-all (a ∷ l) c = shows a (l ++ (a ∷ [])) c.1

-- ---- the judgement

module _ (t : Tables) (φ : Mapping) (v : JudgementFound) (is : JudgementIs (relations_of_tables t) φ v) where
  module _ (c : ShownCycle) (e : v.cycle ≡ Some c) where
    unfitting : Unfitting (relations_of_tables t) φ c
    unfitting = subst (λ (q : Option ShownCycle). MatchOption q (Fit (relations_of_tables t) φ) (Unfitting (relations_of_tables t) φ)) e is.verdict

    pub judged-unfit : (old new : List ℕ) (r : Answer) → Listed (unfit_text t.messages (steps_around (word_in v.waits) (cycle_of c))) old new r → JudgementWritten t φ old new r
    judged-unfit old new r l =
        let ms = cycle_of c in
        record {
          listing = unfit_text t.messages (steps_around (word_in v.waits) ms);
          allowed =
              inr (record {
                unfit = (shown-is-real (relations_of_tables t)).1 φ ms unfitting.cycle;
                cycle = ms;
                shown = unfitting.cycle;
                steps = steps_around (word_in v.waits) ms;
                said = shows-all (relations_of_tables t) φ v.waits is.waits ms unfitting.cycle.closed;
                is = refl;
              });
          listed = l;
        }

    -- what the listing of an unfit mapping asks for
    pub walk-given : length t.messages ≡ 64 → length v.waits ≡ 64 → GivenWalk t.messages (take c.length c.messages) v.waits
    walk-given many told = record { named = have-rows t.messages c.length c.messages many unfitting.stored.few unfitting.stored.messages; told = omega arith }
