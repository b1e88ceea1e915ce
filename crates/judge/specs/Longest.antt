-- "Every program lends room for the longest answer within the limits." How long a judgement's listing can be.
use Rattle.std.specs.Prelude.{ℕ, ◌≤◌, ◌≡◌, List, length}
use Rattle.rules.specs.Rules.{Mapping}
use Rattle.protocol.specs.Reading.{read_protocol_lem}
use Rattle.answers.specs.declared.Answer.{Answer}
use Rattle.answers.specs.Answers.{Small}
use Rattle.judge.specs.Call.{JudgeListing, JudgeCall}

abbrev pub JudgeLength : Type 0
JudgeLength =
    (protocol listing : List ℕ) (φ : Mapping) → (read_protocol_lem protocol).refusal.number ≡ 0 →
    JudgeListing (read_protocol_lem protocol).tables φ listing → length listing ≤ 3985

-- So every number of an answer has its place in the packed number.
abbrev pub JudgeSmall : Type 0
JudgeSmall = (protocol mapping old new : List ℕ) (r : Answer) → JudgeCall protocol mapping old new r → Small r
