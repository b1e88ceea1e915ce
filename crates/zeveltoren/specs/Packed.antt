-- What a host is told: "It must be callable from a C host with numbers and byte slices only, the returned numbers packed there into
-- one of 64 bits." The lent bytes are `old` at entry and `new` at exit.
use Rattle.std.specs.Prelude.{ℕ, ◌≡◌, List}
use Rattle.relations.specs.declared.answer.RelationsAnswer.{RelationsAnswer}
use Rattle.relations.specs.answer.Packed.{packed_relations}
use Rattle.relations.specs.Call.{RelationsCall}
use Rattle.protocol.specs.Reading.{read_protocol_lem}
use Rattle.answers.specs.declared.Answer.{Answer}
use Rattle.answers.specs.Answers.{refused_at_lem, packed_answer}
use Rattle.plan.specs.Call.{PlanCall}
use Rattle.judge.specs.Call.{JudgeCall}

-- The relations call: `size` bytes a row, and at most `most` messages. The first form has 4 and 32, the second 8 and 64 (C-15).
pub record PackedRelations (size most n : ℕ) (causes stalls old new : List ℕ) (k : ℕ) : Type 0 where
  pub answer : RelationsAnswer
  pub call : RelationsCall size most n causes stalls old new answer
  pub is : k ≡ packed_relations answer

-- The reading of a protocol text, which is paper 0: why and where it is refused; every number is 0 where it is accepted.
abbrev pub checked : List ℕ → Answer
checked text = refused_at_lem (read_protocol_lem text).refusal 0

abbrev pub PackedCheck : List ℕ → ℕ → Type 0
PackedCheck text k = k ≡ packed_answer (checked text)

-- The planning call.
pub record PackedPlan (text old new : List ℕ) (k : ℕ) : Type 0 where
  pub answer : Answer
  pub call : PlanCall text old new answer
  pub is : k ≡ packed_answer answer

-- The judging call.
pub record PackedJudgement (protocol mapping old new : List ℕ) (k : ℕ) : Type 0 where
  pub answer : Answer
  pub call : JudgeCall protocol mapping old new answer
  pub is : k ≡ packed_answer answer
