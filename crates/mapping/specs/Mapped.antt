-- What the reading of a mapping gives.
use Rattle.std.specs.Prelude.{List}
use Rattle.rules.specs.declared.Network.{Network}
use Rattle.papers.specs.declared.Refusal.{Refusal}

-- The network of each message, or why and where the mapping is refused.
pub record Mapped : Type 0 where
  pub refusal : Refusal
  pub networks : List Network
