-- Rule 1 at one cell.
use Prim.Native.Nat.{ℕ}
use mathlib.Core.Path.{◌≡◌, ap}
use mathlib.Core.Logic.{◌↔◌}
use Rattle.rules.specs.declared.Message.{Message}
use Rattle.rules.specs.declared.State.{State}
use Rattle.rules.specs.Lists.{◌∈◌}
use Rattle.tables.specs.declared.Trigger.TheVariants.{Message as OnMessage}
use Rattle.tables.specs.declared.Outcome.TheVariants.{Go}
use Rattle.tables.specs.declared.Cell.{Cell}
use Rattle.tables.specs.Cells.{as_rule_trigger, as_rule_outcome, as_rule_cell, sent_numbers}
use Rattle.rules.specs.Rules.{message}
use Rattle.table_rows.specs.causes.AtCell.{CellCauses}

module _ (d : Cell) where
  pub message-causes : (s : State) (m : Message) → d.outcome ≡ Go s → d.trigger ≡ OnMessage m → (b : ℕ) → (b ∈ sent_numbers d) ↔ CellCauses (as_rule_cell d) m.0 b
  message-causes s m e f b = (λ h. ((s.0, ap as_rule_outcome e), ap as_rule_trigger f, h), λ t. t.2)

  pub causes-own : (m : Message) → d.trigger ≡ OnMessage m → (a b : ℕ) → CellCauses (as_rule_cell d) a b → a ≡ m.0
  causes-own m f a b t = let e : as_rule_trigger d.trigger ≡ message m.0 = ap as_rule_trigger f in cc
