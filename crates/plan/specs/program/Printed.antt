-- What the planning program prints: the listing, or "`refused` number paper line on a refusal, alone".
use Rattle.std.specs.Prelude.{ℕ, ◌≡◌, ◌≢◌, List}
use Rattle.text.specs.Written.{Wrote}
use Rattle.protocol.specs.Reading.{read_protocol_lem}
use Rattle.answers.specs.refused_text.RefusedText.{refused_text_lem}
use Rattle.plan.specs.Call.{PlanListing}

-- The first n of the lent bytes are what is printed; the others are as they were.
pub record PlanPrinted (text old new : List ℕ) (n : ℕ) : Type 0 where
  pub printed : List ℕ
  pub refused : (read_protocol_lem text).refusal.number ≢ 0 → printed ≡ refused_text_lem (read_protocol_lem text).refusal 0
  pub planned : (read_protocol_lem text).refusal.number ≡ 0 → PlanListing (read_protocol_lem text).tables printed
  pub wrote : Wrote printed old new n
