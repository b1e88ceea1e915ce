-- Two numbers that a contract of this crate allows are equal, and so are the lent bytes.
use Prim.Native.Nat.{ℕ}
use mathlib.Core.Path.{sym, ap, ◌∙◌}
use mathlib.Core.List.{List}
use Rattle.determined.specs.Determined.{Determines, DeterminesLent}
use Rattle.determined.proofs.Equal.{equal}
use Rattle.relations.specs.answer.Packed.{packed_relations}
use Rattle.relations.proofs.Determined.{call-one}
use Rattle.answers.specs.Answers.{packed_answer}
use Rattle.plan.proofs.Determined.{plan-determined}
use Rattle.judge.proofs.Determined.{judge-determined}
use Rattle.zeveltoren.specs.Packed.{PackedRelations, PackedCheck, PackedPlan, PackedJudgement}

pub relations-packed-determined : (size most n : ℕ) (causes stalls old : List ℕ) → DeterminesLent (PackedRelations size most n causes stalls old)
relations-packed-determined size most n causes stalls old new new' j k v w =
    let q = call-one size most n causes stalls old new new' v.answer w.answer v.call w.call in (v.is ∙ ap packed_relations q.0 ∙ sym w.is, q.1)

pub check-packed-determined : (text : List ℕ) → Determines (PackedCheck text)
check-packed-determined text = equal _

pub plan-packed-determined : (text old : List ℕ) → DeterminesLent (PackedPlan text old)
plan-packed-determined text old new new' j k v w =
    let q = plan-determined text old new new' v.answer w.answer v.call w.call in (v.is ∙ ap packed_answer q.0 ∙ sym w.is, q.1)

pub judge-packed-determined : (protocol mapping old : List ℕ) → DeterminesLent (PackedJudgement protocol mapping old)
judge-packed-determined x y old new new' j k v w =
    let q = judge-determined x y old new new' v.answer w.answer v.call w.call in (v.is ∙ ap packed_answer q.0 ∙ sym w.is, q.1)
