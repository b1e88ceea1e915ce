-- A host reads every number of the answer out of the packed one.
use Rattle.std.specs.Prelude.{ℕ, ◌≤◌, List}
use Rattle.relations.specs.answer.Packed.{RelationsUnpacked}
use Rattle.answers.specs.Answers.{Unpacked}
use Rattle.zeveltoren.specs.Packed.{PackedRelations, checked, PackedCheck, PackedPlan, PackedJudgement}

abbrev pub EveryRelations : Type 0
EveryRelations = (size most n : ℕ) (causes stalls old new : List ℕ) (k : ℕ) → most ≤ 64 → (p : PackedRelations size most n causes stalls old new k) → RelationsUnpacked k p.answer

abbrev pub EveryCheck : Type 0
EveryCheck = (text : List ℕ) (k : ℕ) → PackedCheck text k → Unpacked k (checked text)

abbrev pub EveryPlanText : Type 0
EveryPlanText = (text old new : List ℕ) (k : ℕ) (p : PackedPlan text old new k) → Unpacked k p.answer

abbrev pub EveryJudgeTexts : Type 0
EveryJudgeTexts = (protocol mapping old new : List ℕ) (k : ℕ) (p : PackedJudgement protocol mapping old new k) → Unpacked k p.answer
