-- A number as the number of a message, or of a network: what a byte that is written or a field that is read stands for.
use Rattle.std.specs.Prelude.{ℕ}
use Rattle.rules.specs.declared.Message.{Message}
use Rattle.rules.specs.declared.Network.{Network}

abbrev pub as_message : ℕ → Message
as_message n = record { 0 = n }

abbrev pub as_network : ℕ → Network
as_network n = record { 0 = n }
