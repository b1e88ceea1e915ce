-- Refusal 13 at one cell, and the first such cell.
use Prim.Native.Nat.{ℕ, ◌<◌, ◌≤◌, ◌^◌}
use mathlib.Core.Path.{◌≡◌, subst, ap}
use mathlib.Core.Logic.{◌↔◌}
use mathlib.Core.Bool.{Bool, true}
use mathlib.Core.List.{List}
use native.Mathlib.Omega.{arith}
use lib.Dec.{eqb}
use borrow.Author.Tests.{eqb-true, eq-eqb}
use Rattle.rules.specs.declared.Message.{Message}
use Rattle.rules.specs.Rules.{Staller, NoEntry, Cell as RuleCell}
use Rattle.rows.specs.Rows.{Bit}
use Rattle.rows.proofs.Bits.{bit-zero, no_bits}
use Rattle.tables.specs.declared.Trigger.TheVariants.{Message as OnMessage}
use Rattle.tables.specs.declared.Outcome.TheVariants.{Stall}
use Rattle.tables.specs.declared.Cell.{Cell}
use Rattle.tables.specs.declared.Tables.{Tables}
use Rattle.tables.specs.Tables.{no_cell_lem, stored_of}
use Rattle.tables.specs.Cells.{as_rule_trigger, as_rule_outcome, as_rule_cell, cells_of, transient_of}
use Rattle.tables.specs.Relations.{cell_at, NoEntryFound}
use Rattle.std.specs.List.{AllWithin, HoldsAt}
use Rattle.std.specs.Option.{MatchOption}
use Rattle.std.proofs.Common.{Option, None, Some}
use lib.ListN.{length}
use lib.Seq.{get_or-take}
use Rattle.table_rows.specs.entries.AtCell.{CellNoEntry}

pub message-no-entry : (d : Cell) (P : ℕ → Type 0) (m : Message) → d.outcome ≡ Stall → d.trigger ≡ OnMessage m → ((a : ℕ) → ¬ P a) → CellNoEntry P (as_rule_cell d)
message-no-entry d P m e f g = ((m.0, ap as_rule_trigger f), ap as_rule_outcome e, g)

-- an answer that a row is empty
pub answer-empty : (w row : ℕ) → row < 2 ^ w → (eqb row 0 ≡ true) ↔ ((a : ℕ) → ¬ Bit row a)
answer-empty w row h = (λ e a b. bit-zero a (subst (λ (r : ℕ). Bit r a) (eqb-true row 0 e) b), λ g. eq-eqb row 0 (no_bits w row h (λ j k. g j)))

-- refusal 13 by the row of the state's stallers
pub no-entry-row : (transient : ℕ → Bool) (cells : List RuleCell) (P : ℕ → Type 0) (c : RuleCell) → ((a : ℕ) → P a ↔ Staller transient cells a c.state) → CellNoEntry P c ↔ NoEntry transient cells c
no-entry-row transient cells P c f = (λ t. (t.0, t.1, λ a k. t.2 a ((f a).1 k)), λ t. (t.0, t.1, λ a p. t.2 a ((f a).0 p)))

-- ---- the first such cell

-- the cell has no entry, by the rules
abbrev pub Lacks : Tables → Cell → Type 0
Lacks t d = NoEntry (transient_of t) (cells_of t) (as_rule_cell d)

module _ (t : Tables) (many : length (stored_of t) ≡ t.cell_count) where
  none-before : (i : ℕ) → i ≤ t.cell_count → AllWithin (λ d. ¬ Lacks t d) (stored_of t) 0 i → (k : ℕ) → k < i → ¬ NoEntry (transient_of t) (cells_of t) (cell_at t k)
  none-before i h f k q = subst (λ d. ¬ Lacks t d) (get_or-take t.cell_count t.cells k no_cell_lem (omega arith)) (f k no_cell_lem (omega arith) q)

  pub first-found : (r : Option ℕ)
      → MatchOption r (AllWithin (λ d. ¬ Lacks t d) (stored_of t) 0 (length (stored_of t))) (λ i. (i < length (stored_of t)) × HoldsAt (Lacks t) (stored_of t) i × AllWithin (λ d. ¬ Lacks t d) (stored_of t) 0 i)
      → NoEntryFound t r
  first-found None f = record { within = omega arith; earlier = λ k h. none-before (length (stored_of t)) (omega (arith, many)) f k (omega (arith, many)); found = λ h. absurd (omega arith) }
  first-found (Some i) f =
      let h : i < t.cell_count = omega (arith, f.0, many) in (
        record {
          within = omega arith;
          earlier = none-before i (omega arith) f.2;
          found = λ q. subst (Lacks t) (get_or-take t.cell_count t.cells i no_cell_lem h) (f.1 no_cell_lem);
        },
        h,
      )
