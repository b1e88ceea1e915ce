-- Demand 3 for texts, through the calls: what a plan says, judgements agree with. proofs/Promises.antt has a term of each type.
use Rattle.std.specs.Prelude.{ℕ, ◌<◌, ◌≤◌, ◌≡◌, ◌⊎◌, List}
use Rattle.rules.specs.Rules.{MessageNo, NetworkNo}
use Rattle.rules.specs.Plan.{Uses, LongestChain}
use Rattle.tables.specs.declared.Tables.{Tables}
use Rattle.tables.specs.Tables.{messages_of_lem}
use Rattle.tables.specs.Cells.{relations_of_tables}
use Rattle.protocol.specs.Reading.{read_protocol_lem}
use Rattle.mapping.specs.Mapped.{Mapped}
use Rattle.mapping.specs.Headers.{Header, header1, header2}
use Rattle.mapping.specs.Text.{mapping_text}
use Rattle.answers.specs.declared.Answer.{Answer}
use Rattle.answers.specs.Answers.{Listed}
use Rattle.plan_listing.specs.PlanText.{class_three, class_two}
use Rattle.judge_listing.specs.fit.FitText.{fit_text}
use Rattle.judge_listing.specs.JudgeText.{ShownStep, unfit_text}
use Rattle.verdicts.specs.Verdicts.{mapping_of_lem}
use Rattle.plan.specs.Call.{PlanCall}
use Rattle.judge.specs.Call.{mapped_for, JudgeCall}

-- The tables of an accepted protocol text.
abbrev pub tables_of : List ℕ → Tables
tables_of protocol = (read_protocol_lem protocol).tables

-- The mapping text, read for its messages.
abbrev pub mapped : List ℕ → List ℕ → Mapped
mapped protocol mapping = mapped_for (tables_of protocol) mapping

-- Every judgement of this protocol and this mapping answers `fit`.
abbrev pub JudgedFit : List ℕ → List ℕ → Type 0
JudgedFit protocol mapping = (old new : List ℕ) (r : Answer) → JudgeCall protocol mapping old new r → Listed fit_text old new r

-- Every judgement of this protocol and this mapping answers `unfit` and some steps.
abbrev pub JudgedUnfit : List ℕ → List ℕ → Type 0
JudgedUnfit protocol mapping =
    (old new : List ℕ) (r : Answer) → JudgeCall protocol mapping old new r →
    (steps : List ShownStep) × Listed (unfit_text (tables_of protocol).messages steps) old new r

-- The networks that the messages of the mapping text use are j.
abbrev pub TextUses : List ℕ → List ℕ → ℕ → Type 0
TextUses protocol mapping j = Uses (tables_of protocol).message_count (mapping_of_lem (mapped protocol mapping).networks) j

-- The networks of a listing, written as a mapping text under this header, are accepted and judged `fit`, and use so many networks.
pub record KeptUnder (header : Header) (protocol : List ℕ) (networks : List NetworkNo) (count : ℕ) : Type 0 where
  pub accepted : (mapped protocol (mapping_text header (messages_of_lem (tables_of protocol)) networks)).refusal.number ≡ 0
  pub fit : JudgedFit protocol (mapping_text header (messages_of_lem (tables_of protocol)) networks)
  pub reached : TextUses protocol (mapping_text header (messages_of_lem (tables_of protocol)) networks) count

-- What a listing of class 3 promises. "The printed number is reached by the printed mapping, no fit mapping has fewer networks,
-- and it equals the messages on the longest waits chain."
pub record ThreeKept (protocol listing : List ℕ) : Type 0 where
  pub networks : List NetworkNo
  pub count : ℕ
  pub is : listing ≡ class_three (messages_of_lem (tables_of protocol)) networks count
  -- The listed mapping is kept as a text under header 2; and under header 1 too where it allows so many messages (there are not more networks).
  pub under_2 : KeptUnder header2 protocol networks count
  pub under_1 : (tables_of protocol).message_count ≤ 32 → KeptUnder header1 protocol networks count
  -- Every accepted mapping text with fewer networks is judged `unfit`.
  pub fewer_unfit : (mapping : List ℕ) (j : ℕ) → (mapped protocol mapping).refusal.number ≡ 0 → TextUses protocol mapping j → j < count → JudgedUnfit protocol mapping
  pub chain : LongestChain (relations_of_tables (tables_of protocol)) count

-- What a listing of class 2 promises: "With one [a waits cycle], no mapping is fit."
pub record TwoKept (protocol listing : List ℕ) : Type 0 where
  pub cycle : List MessageNo
  pub is : listing ≡ class_two (tables_of protocol).messages cycle
  pub every_unfit : (mapping : List ℕ) → (mapped protocol mapping).refusal.number ≡ 0 → JudgedUnfit protocol mapping

-- Every plan of an accepted protocol text is one of the two, and keeps its promise.
abbrev pub PlansKept : Type 0
PlansKept =
    (protocol old new : List ℕ) (r : Answer) → PlanCall protocol old new r → (read_protocol_lem protocol).refusal.number ≡ 0 →
    (listing : List ℕ) × Listed listing old new r × (ThreeKept protocol listing ⊎ TwoKept protocol listing)
