-- The contracts of this crate leave one answer, and one content of the lent bytes.
use Prim.Native.Nat.{ℕ}
use mathlib.Core.List.{List}
use Rattle.determined.specs.Determined.{DeterminesLent}
use Rattle.rules.specs.declared.Message.{Message}
use Rattle.rules.specs.declared.Network.{Network}
use Rattle.tables.specs.declared.MessageRow.{MessageRow}
use Rattle.answers.specs.Answers.{Listed}
use Rattle.answers.proofs.Determined.{listed-determined}
use Rattle.plan_listing.specs.PlanText.{class_three, class_two, message_numbers, network_numbers}

pub map-listing-determined : (messages : List MessageRow) (networks : List Network) (count : ℕ) (old : List ℕ)
    → DeterminesLent (Listed (class_three messages (network_numbers networks) count) old)
map-listing-determined messages networks count = listed-determined (class_three messages (network_numbers networks) count)

pub cycle-listing-determined : (messages : List MessageRow) (cycle : List Message) (old : List ℕ)
    → DeterminesLent (Listed (class_two messages (message_numbers cycle)) old)
cycle-listing-determined messages cycle = listed-determined (class_two messages (message_numbers cycle))
