-- The rows of steps of a protocol's messages: waits steps by rule 4, queues steps by rule 5.
use Rattle.std.specs.Prelude.{ℕ, ◌<◌, ◌≡◌, ◌⊎◌, ◌≢◌, ◌↔◌, List, [], get_or, replicate}
use Rattle.rules.specs.declared.Network.{Network}
use Rattle.rules.specs.Rules.{MessageNo, Mapping, Queues}
use Rattle.rows.specs.Rows.{Bit, of_rows}
use Rattle.rows.specs.Closure.{KeptFrom}

-- The mapping that these networks give: message m is in the network at place m.
abbrev pub mapping_of_lem : List Network → Mapping
mapping_of_lem networks m = (get_or networks m (record { 0 = 0 })).0

-- Rules 4 and 5: bit k of row m says that m waits for k or queues behind k. Rule 5 asks for the rows of stalls only.
-- These are the first n of so many rows, and the others are 0.
pub record StepsRows (most : ℕ) (waits stalls : List ℕ) (φ : Mapping) (n : ℕ) (rows : List ℕ) : Type 0 where
  pub bits : (m k : MessageNo) → m < n → Bit (get_or rows m 0) k ↔ (Bit (get_or waits m 0) k ⊎ Queues (of_rows n [] stalls) φ m k)
  pub kept : KeptFrom n (replicate most 0) rows

-- ---- what the loops gather

-- m queues behind k, where the bits of `stalled` are the messages that something stalls.
pub record Behind (φ : Mapping) (stalled : ℕ) (m k : MessageNo) : Type 0 where
  pub differ : m ≢ k
  pub share : φ m ≡ φ k
  pub bit : Bit stalled k

-- The row with k, if m queues behind k.
abbrev pub WithBehind : Mapping → ℕ → MessageNo → MessageNo → ℕ → ℕ → Type 0
WithBehind φ stalled m k row r = (j : MessageNo) → Bit r j ↔ (Bit row j ⊎ ((j ≡ k) × Behind φ stalled m k))

-- The bits of r are the messages, of the first n, behind which m queues.
abbrev pub QueuesRow : Mapping → ℕ → ℕ → MessageNo → ℕ → Type 0
QueuesRow φ stalled n m r = (k : MessageNo) → Bit r k ↔ ((k < n) × Behind φ stalled m k)
