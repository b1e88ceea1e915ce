-- What the judging program prints: the listing, or "`refused` number paper line on a refusal, alone".
use Rattle.std.specs.Prelude.{ℕ, ◌≡◌, ◌≢◌, List}
use Rattle.text.specs.Written.{Wrote}
use Rattle.tables.specs.declared.Tables.{Tables}
use Rattle.protocol.specs.Reading.{read_protocol_lem}
use Rattle.answers.specs.refused_text.RefusedText.{refused_text_lem}
use Rattle.verdicts.specs.Verdicts.{mapping_of_lem}
use Rattle.judge.specs.Call.{JudgeListing, mapped_for}

-- Once the protocol is accepted: the mapping's refusal (paper 1), or the listing.
pub record MappingPrinted (t : Tables) (mapping printed : List ℕ) : Type 0 where
  pub mapping_refused : (mapped_for t mapping).refusal.number ≢ 0 → printed ≡ refused_text_lem (mapped_for t mapping).refusal 1
  pub judged : (mapped_for t mapping).refusal.number ≡ 0 → JudgeListing t (mapping_of_lem (mapped_for t mapping).networks) printed

-- The first n of the lent bytes are what is printed; the others are as they were.
pub record JudgePrinted (protocol mapping old new : List ℕ) (n : ℕ) : Type 0 where
  pub printed : List ℕ
  pub protocol_refused : (read_protocol_lem protocol).refusal.number ≢ 0 → printed ≡ refused_text_lem (read_protocol_lem protocol).refusal 0
  pub protocol_accepted : (read_protocol_lem protocol).refusal.number ≡ 0 → MappingPrinted (read_protocol_lem protocol).tables mapping printed
  pub wrote : Wrote printed old new n
