-- The rules 1 to 7 of the paper (01-scope.md, "From tables to relations"), in its order and under its numbers.
-- "Message numbers, network numbers and state numbers all start at 0." Nothing here knows a limit, a width or how tables are stored.
use Rattle.std.specs.Prelude.{ℕ, ◌<◌, ◌≡◌, Bool, true, ◌⊎◌, ◌≢◌, List, [], ◌∷◌, ◌++◌}
use Rattle.rules.specs.Lists.{◌∈◌, Some}
use Rattle.rules.specs.Walks.{Rel, Chain, Plus, Somewhere}

-- ---- what a number stands for

abbrev pub MessageNo : Type 0
MessageNo = ℕ

abbrev pub EventNo : Type 0
EventNo = ℕ

-- A state number stands for a state of one controller.
abbrev pub StateNo : Type 0
StateNo = ℕ

abbrev pub NetworkNo : Type 0
NetworkNo = ℕ

-- ---- the controller tables, as far as the rules see them

-- "A trigger is a message, or on `cache` also an event."
pub data Trigger : Type 0 where
  message : MessageNo → Trigger
  event : EventNo → Trigger
  deriving Discrete as Trigger-discrete

-- `stall`, or `go` with the next state.
pub data Outcome : Type 0 where
  stall : Outcome
  go : StateNo → Outcome
  deriving Discrete as Outcome-discrete

pub record Cell : Type 0 where
  -- the cell's own state
  pub state : StateNo
  pub trigger : Trigger
  pub outcome : Outcome
  -- the messages sent
  pub sent : List MessageNo

module _ (cells : List Cell) where
  -- Rule 1, causes. "a causes b when some `go` cell triggered by a sends b. Events cause nothing."
  abbrev pub Causes : Rel
  Causes a b = Some (λ c. ((s : StateNo) × (c.outcome ≡ go s)) × (c.trigger ≡ message a) × (b ∈ c.sent)) cells

-- Rule 2, entry. "A `go` cell enters state s when its next is s and its own state is another one."
abbrev pub Enters : Cell → StateNo → Type 0
Enters c s = (c.outcome ≡ go s) × (c.state ≢ s)

-- Rule 2, carriers. "Its carriers are its trigger if that is a message, else the messages it sends."
abbrev pub Carrier : Trigger → List MessageNo → MessageNo → Type 0
Carrier (message m) sent a = a ≡ m
Carrier (event e) sent a = a ∈ sent

module _ (cells : List Cell) where
  -- b has a `stall` cell in s.
  abbrev pub StallsIn : MessageNo → StateNo → Type 0
  StallsIn b s = Some (λ c. (c.state ≡ s) × (c.trigger ≡ message b) × (c.outcome ≡ stall)) cells

  -- a is a carrier of some cell that enters s.
  abbrev pub Carries : MessageNo → StateNo → Type 0
  Carries a s = Some (λ c. Enters c s × Carrier c.trigger c.sent a) cells

  -- Rule 3 as it was before C-12. "a stalls b when b has a `stall` cell in s and a is a carrier of some cell that enters s.
  -- A stalled event gives no pair."
  abbrev pub StallsDirectly : Rel
  StallsDirectly a b = (s : StateNo) × StallsIn b s × Carries a s

  -- Refusal 13 as it was: "a stalled message in a state whose entries have no carrier".
  abbrev pub NoEntryDirectly : Cell → Type 0
  NoEntryDirectly c = ((b : MessageNo) × (c.trigger ≡ message b)) × (c.outcome ≡ stall) × ((a : MessageNo) → ¬ Carries a c.state)

-- Rule 3, mended (02-change-requests.md, C-12). Which states are transient is given beside the cells.
module _ (transient : StateNo → Bool) (cells : List Cell) where
  -- A transient state r "having a `go` cell into" s.
  abbrev pub LeadsInto : Rel
  LeadsInto r s = (transient r ≡ true) × Some (λ c. (c.state ≡ r) × (c.outcome ≡ go s)) cells

  -- "Take s, and with each state taken also every transient state of that controller having a `go` cell into it": r is taken for s.
  -- (It is of that controller, because next is a state of the cell's own.)
  abbrev pub Taken : StateNo → StateNo → Type 0
  Taken s r = (r ≡ s) ⊎ Plus LeadsInto r s

  -- "The stallers are the carriers of all cells that enter a taken state."
  abbrev pub Staller : MessageNo → StateNo → Type 0
  Staller a s = (r : StateNo) × Taken s r × Carries cells a r

  -- Rule 3, stalls: b has a `stall` cell in s, and a is one of the stallers. A stalled event gives no pair.
  abbrev pub Stalls : Rel
  Stalls a b = (s : StateNo) × StallsIn cells b s × Staller a s

  -- Refusal 13, NO_ENTRY: "now given when no taken state has a carrier".
  abbrev pub NoEntry : Cell → Type 0
  NoEntry c = ((b : MessageNo) × (c.trigger ≡ message b)) × (c.outcome ≡ stall) × ((a : MessageNo) → ¬ Staller a c.state)

-- ---- a protocol, as far as the rules 4 to 7 see it

pub record Relations : Type 1 where
  -- how many messages there are: they are numbered from 0
  pub count : ℕ
  pub causes : Rel
  pub stalls : Rel

-- The relations that rules 1 to 3 give for the cells of a protocol with n messages.
abbrev pub of_cells : (StateNo → Bool) → List Cell → ℕ → Relations
of_cells transient cells n = record { count = n; causes = Causes cells; stalls = Stalls transient cells }

-- And by rule 3 as it was before C-12.
abbrev pub of_cells_directly : List Cell → ℕ → Relations
of_cells_directly cells n = record { count = n; causes = Causes cells; stalls = StallsDirectly cells }

-- A mapping: the network of each message.
abbrev pub Mapping : Type 0
Mapping = MessageNo → NetworkNo

module _ (p : Relations) where
  -- Rule 4, waits. "b waits for c when some a stalls b, and c is reached from a by one or more causes steps."
  abbrev pub Waits : Rel
  Waits b c = (a : MessageNo) × p.stalls a b × Plus p.causes a c

  -- k is stalled by something.
  abbrev pub Stalled : MessageNo → Type 0
  Stalled k = (a : MessageNo) × p.stalls a k

  -- Rule 5, queues. "Under a mapping, m queues behind k when m and k differ, share a network, and k is stalled by something."
  pub record Queues (φ : Mapping) (m k : MessageNo) : Type 0 where
    pub m-message : m < p.count
    pub k-message : k < p.count
    pub differ : m ≢ k
    pub share : φ m ≡ φ k
    pub stalled : Stalled k

  -- A step of a walk: a waits step or a queues step.
  abbrev pub Step : Mapping → Rel
  Step φ m k = Waits m k ⊎ Queues φ m k

  -- Rule 6, unfit. "A closed walk of waits and queues steps has at least one waits step."
  -- The walk goes from a through the messages of l and back to a.
  pub record Unfit (φ : Mapping) : Type 0 where
    pub a : MessageNo
    pub l : List MessageNo
    pub walk : Chain (Step φ) a (l ++ a ∷ [])
    pub some-waits : Somewhere Waits a (l ++ a ∷ [])

  abbrev pub Fit : Mapping → Type 0
  Fit φ = ¬ Unfit φ

  -- Rule 7, networks alone. "Network A leads to B when a message in A waits for one in B; A and B may be the same."
  pub record Leads (φ : Mapping) (A B : NetworkNo) : Type 0 where
    pub m : MessageNo
    pub k : MessageNo
    pub in-A : φ m ≡ A
    pub in-B : φ k ≡ B
    pub waits : Waits m k

  -- Rule 7, the verdict. "Unfit when some network leads back to itself in one or more steps."
  abbrev pub NetUnfit : Mapping → Type 0
  NetUnfit φ = (A : NetworkNo) × Plus (Leads φ) A A

  -- Class 2: "the waits have a cycle". Class 3: they have none.
  abbrev pub WaitsCycle : Type 0
  WaitsCycle = (a : MessageNo) × Plus Waits a a
