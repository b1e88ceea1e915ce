-- The judging call (01-scope.md, "Two listings, whole" and "Refusal numbers").
use Rattle.std.specs.Prelude.{ℕ, ◌≡◌, ◌⊎◌, ◌≢◌, List, [], ◌∷◌, ◌++◌}
use Rattle.rules.specs.Rules.{MessageNo, Relations, Mapping, Fit, Unfit}
use Rattle.rules.specs.Plan.{JudgeCycle, Says}
use Rattle.tables.specs.declared.MessageRow.{MessageRow}
use Rattle.tables.specs.declared.Tables.{Tables}
use Rattle.tables.specs.Tables.{messages_of_lem}
use Rattle.tables.specs.Cells.{relations_of_tables}
use Rattle.protocol.specs.Reading.{read_protocol_lem}
use Rattle.mapping.specs.Mapped.{Mapped}
use Rattle.mapping.specs.Reading.{read_mapping_lem}
use Rattle.answers.specs.declared.Answer.{Answer}
use Rattle.answers.specs.Answers.{Refused, Listed}
use Rattle.judge_listing.specs.fit.FitText.{fit_text}
use Rattle.judge_listing.specs.JudgeText.{ShownStep, unfit_text}
use Rattle.verdicts.specs.Verdicts.{mapping_of_lem}

-- ---- the steps that are shown

-- The steps from a through the messages of l, each with the word that it has.
abbrev pub Shows : Relations → Mapping → MessageNo → List MessageNo → List ShownStep → Type 0
Shows p φ a [] [] = Unit {0}
Shows p φ a [] (s ∷ steps) = ⊥
Shows p φ a (b ∷ l) [] = ⊥
Shows p φ a (b ∷ l) (s ∷ steps) = (s.from ≡ a) × (s.to ≡ b) × Says p φ a s.word b × Shows p φ b l steps

-- The steps of a closed walk: the last one leads back to the first message.
abbrev pub ShowsAll : Relations → Mapping → List MessageNo → List ShownStep → Type 0
ShowsAll p φ [] steps = ⊥
ShowsAll p φ (a ∷ l) steps = Shows p φ a (l ++ (a ∷ [])) steps

-- ---- the listings that the rules allow

-- Fit, by rule 6.
pub record FitListing (p : Relations) (φ : Mapping) (listing : List ℕ) : Type 0 where
  pub fit : Fit p φ
  pub is : listing ≡ fit_text

-- Unfit, by rule 6, and the steps of the shown cycle.
pub record UnfitListing (messages : List MessageRow) (p : Relations) (φ : Mapping) (listing : List ℕ) : Type 0 where
  pub unfit : Unfit p φ
  pub cycle : List MessageNo
  pub shown : JudgeCycle p φ cycle
  pub steps : List ShownStep
  pub said : ShowsAll p φ cycle steps
  pub is : listing ≡ unfit_text messages steps

-- The judgement of a mapping for a protocol's tables, by the relations that rules 1 to 5 give.
abbrev pub JudgeListing : Tables → Mapping → List ℕ → Type 0
JudgeListing t φ listing = FitListing (relations_of_tables t) φ listing ⊎ UnfitListing t.messages (relations_of_tables t) φ listing

-- Such a listing was to be written to the lent bytes, which are `old` at entry and `new` at exit.
pub record JudgementWritten (t : Tables) (φ : Mapping) (old new : List ℕ) (r : Answer) : Type 0 where
  pub listing : List ℕ
  pub allowed : JudgeListing t φ listing
  pub listed : Listed listing old new r

-- ---- the call

-- The mapping text, read for the protocol's messages.
abbrev pub mapped_for : Tables → List ℕ → Mapped
mapped_for t mapping = read_mapping_lem (messages_of_lem t) mapping

-- What follows once the protocol is accepted: the mapping (paper 1), then 16.
pub record AfterProtocol (t : Tables) (mapping old new : List ℕ) (r : Answer) : Type 0 where
  pub mapping_refused : (mapped_for t mapping).refusal.number ≢ 0 → Refused (mapped_for t mapping).refusal 1 old new r
  pub judged : (mapped_for t mapping).refusal.number ≡ 0 → JudgementWritten t (mapping_of_lem (mapped_for t mapping).networks) old new r

-- "A judgement checks the protocol (paper 0), then the mapping (paper 1: 1 to 4, 14, 15), then 16."
pub record JudgeCall (protocol mapping old new : List ℕ) (r : Answer) : Type 0 where
  pub protocol_refused : (read_protocol_lem protocol).refusal.number ≢ 0 → Refused (read_protocol_lem protocol).refusal 0 old new r
  pub protocol_accepted : (read_protocol_lem protocol).refusal.number ≡ 0 → AfterProtocol (read_protocol_lem protocol).tables mapping old new r
