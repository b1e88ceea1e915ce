-- Each part of an answer is read from its place in the packed number.
use Prim.Native.Nat.{ℕ}
use mathlib.Core.Path.{refl, sym, subst}
use mathlib.Core.List.{List}
use native.Mathlib.Omega.{arith}
use Rattle.relations.specs.answer.Packed.{RelationsUnpacked}
use Rattle.relations.proofs.Calls.{call-small, unpack-relations}
use Rattle.protocol.specs.Reading.{read_protocol_lem}
use Rattle.reading_laws.proofs.bounds.Bounds.{protocol-low}
use Rattle.answers.specs.Answers.{Small, Unpacked}
use Rattle.answers.proofs.Packing.{unpack}
use Rattle.answers.proofs.Small.{small-refused}
use Rattle.plan.proofs.PlanLongest.{plan-small}
use Rattle.judge.proofs.JudgeLongest.{judge-small}
use Rattle.zeveltoren.specs.Packed.{checked}
use Rattle.zeveltoren.specs.Unpacked.{EveryRelations, EveryCheck, EveryPlanText, EveryJudgeTexts}

pub every-relations : EveryRelations
every-relations size most n causes stalls old new k h p =
    subst (λ (j : ℕ). RelationsUnpacked j p.answer) (sym p.is) (unpack-relations p.answer (call-small size most n causes stalls old new p.answer p.call h))

pub check-small : (text : List ℕ) → Small (checked text)
check-small text =
    let low = protocol-low text in
    small-refused (read_protocol_lem text).refusal 0 (checked text) low.0 (omega arith) low.1 (omega (arith, low.2)) refl

pub every-check : EveryCheck
every-check text k e = subst (λ (j : ℕ). Unpacked j (checked text)) (sym e) (unpack (checked text) (check-small text))

pub every-plan-text : EveryPlanText
every-plan-text text old new k p = subst (λ (j : ℕ). Unpacked j p.answer) (sym p.is) (unpack p.answer (plan-small text old new p.answer p.call))

pub every-judge-texts : EveryJudgeTexts
every-judge-texts x y old new k p = subst (λ (j : ℕ). Unpacked j p.answer) (sym p.is) (unpack p.answer (judge-small x y old new p.answer p.call))
