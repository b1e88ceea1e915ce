-- What is found out about a protocol's tables: a plan, and the judgement of a mapping.
use Rattle.std.specs.Prelude.{ℕ, ◌-◌, ◌<◌, ◌≤◌, ◌≡◌, ◌↔◌, MatchOption, List, length, get_or, drop, replicate}
use Rattle.rules.specs.declared.Message.{Message}
use Rattle.rules.specs.declared.Network.{Network}
use Rattle.rules.specs.Rules.{MessageNo, Relations, Mapping, Waits, Fit}
use Rattle.rules.specs.Plan.{LeastCount, Printed, PlanCycle, JudgeCycle}
use Rattle.rows.specs.Rows.{Bit}
pub use Rattle.waits.specs.steps.Steps.{mapping_of_lem}
use Rattle.plan_listing.specs.PlanText.{first_messages, first_networks, MessagesBelow}
use Rattle.rules.specs.Numbers.{as_message, as_network}
use Rattle.verdicts.specs.declared.ShownCycle.{ShownCycle}
use Rattle.verdicts.specs.declared.PlanFound.{PlanFound}
use Rattle.verdicts.specs.declared.PlanFound.TheVariants.{Ranked, Cyclic}
use Rattle.verdicts.specs.declared.JudgementFound.{JudgementFound}

-- ---- the rows of waits

-- Bit c of row b says that b waits for c, by rule 4. No other bit is set, and what has no row waits for nothing.
abbrev pub WaitsOf : Relations → List ℕ → Type 0
WaitsOf p rows = (b c : MessageNo) → Bit (get_or rows b 0) c ↔ Waits p b c

-- ---- what an array holds past a count

abbrev pub cleared_message : Message
cleared_message = as_message 0

abbrev pub cleared_network : Network
cleared_network = as_network 0

-- The messages from place n on are cleared.
abbrev pub MessagesPast : ℕ → List Message → Type 0
MessagesPast n l = drop n l ≡ replicate (64 - n) cleared_message

-- The networks from place n on are cleared.
abbrev pub NetworksPast : ℕ → List Network → Type 0
NetworksPast n l = drop n l ≡ replicate (64 - n) cleared_network

-- A cycle in an array: its messages are the first `count` of the array, each with a row in the tables; the places past them are cleared.
pub record StoredCycle (count : ℕ) (cycle : List Message) : Type 0 where
  pub few : count ≤ 64
  pub long : length (first_messages count cycle) ≡ count
  pub messages : MessagesBelow count (first_messages count cycle)
  pub past : MessagesPast count cycle

-- The messages of a shown cycle.
abbrev pub cycle_of : ShownCycle → List MessageNo
cycle_of c = first_messages c.length c.messages

-- ---- a plan

-- Class 3: the least count, and the printed mapping.
pub record ThreeFound (p : Relations) (count : ℕ) (networks : List Network) : Type 0 where
  pub some : 0 < count
  pub few : count ≤ 64
  pub long : length (first_networks p.count networks) ≡ p.count
  pub printed : Printed p (λ m. get_or (first_networks p.count networks) m 0)
  pub least : LeastCount p count
  pub networks_past : NetworksPast p.count networks

-- Class 2: the shown cycle of waits steps.
pub record TwoFound (p : Relations) (c : ShownCycle) : Type 0 where
  pub stored : StoredCycle c.length c.messages
  pub cycle : PlanCycle p (cycle_of c)

-- r is the plan of the relations p.
abbrev pub PlanIs : Relations → PlanFound → Type 0
PlanIs p (Ranked count networks) = ThreeFound p count networks
PlanIs p (Cyclic c) = TwoFound p c

-- ---- a judgement

-- Unfit, with the shown cycle.
pub record Unfitting (p : Relations) (φ : Mapping) (c : ShownCycle) : Type 0 where
  pub some : 0 < c.length
  pub stored : StoredCycle c.length c.messages
  pub cycle : JudgeCycle p φ (cycle_of c)

-- r is the judgement of the mapping φ for the relations p: fit where there is no cycle, else unfit with the shown one.
pub record JudgementIs (p : Relations) (φ : Mapping) (r : JudgementFound) : Type 0 where
  pub verdict : MatchOption r.cycle (Fit p φ) (Unfitting p φ)
  pub waits : WaitsOf p r.waits
