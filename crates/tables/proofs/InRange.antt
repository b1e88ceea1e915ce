-- Tables whose numbers are in range.
use Prim.Native.Nat.{ℕ, ◌≤◌, ◌<◌}
use mathlib.Core.Path.{◌≡◌, subst}
use mathlib.Core.Logic.{◌↔◌}
use mathlib.Core.List.{List, [], ◌∷◌, map}
use native.Mathlib.Omega.{arith}
use Rattle.rules.specs.Rules.{message, go, Causes, Carries, LeadsInto, Stalls, Cell as RuleCell}
use Rattle.rules.specs.Promises.{Accepted}
use Rattle.rules.proofs.Given.{InRange, Every, some-every, tables-accepted}
use Rattle.rows.specs.Rows.{Rows}
use Rattle.tables.specs.declared.Trigger.{Trigger}
use Rattle.tables.specs.declared.Trigger.TheVariants.{Message as OnMessage, Event as OnEvent}
use Rattle.tables.specs.declared.Outcome.{Outcome}
use Rattle.tables.specs.declared.Outcome.TheVariants.{Stall, Go}
use Rattle.tables.specs.declared.Cell.{Cell}
use Rattle.tables.specs.declared.Tables.{Tables}
use Rattle.tables.specs.Tables.{stored_of}
use Rattle.tables.specs.Cells.{as_rule_trigger, as_rule_outcome, as_rule_cell, cells_of, transient_of, relations_of_tables, Each, TriggerOk, OutcomeOk, CellOk, TablesOk}
use Rattle.tables.specs.Relations.{CausesRows, StallsRows}
use Rattle.tables.proofs.Gather.{each_map}

trigger-more : (m n e f : ℕ) → m ≤ n → e ≤ f → (t : Trigger) → TriggerOk m e t → TriggerOk n f t
trigger-more m n e f h k (OnMessage x) p = omega arith
trigger-more m n e f h k (OnEvent x) p = omega arith

outcome-more : (s u : ℕ) → s ≤ u → (o : Outcome) → OutcomeOk s o → OutcomeOk u o
outcome-more s u h Stall p = p
outcome-more s u h (Go x) p = omega arith

-- what is within the counts is within larger ones
pub cell-more : (m n e f s u : ℕ) → m ≤ n → e ≤ f → s ≤ u → (c : Cell) → CellOk m e s c → CellOk n f u c
cell-more m n e f s u h k l c ok = record {
  few = ok.few;
  own = omega (arith, ok.own);
  trigger = trigger-more m n e f h k c.trigger ok.trigger;
  next = outcome-more s u l c.outcome ok.next;
  sent = λ b q. omega (arith, ok.sent b q);
}

-- the numbers of the stored cells are within the limits
pub cells-ok : (t : Tables) → TablesOk t → Each (CellOk 64 8 64) (stored_of t)
cells-ok t ok =
    each_map (CellOk t.message_count t.event_count t.state_count) (CellOk 64 8 64)
    (cell-more t.message_count 64 t.event_count 8 t.state_count 64 ok.messages ok.events ok.states) (stored_of t) ok.cells

-- ---- the relations of such tables are accepted

trigger-range : (m e : ℕ) (t : Trigger) → TriggerOk m e t → (k : ℕ) → as_rule_trigger t ≡ message k → k < m
trigger-range m e (OnMessage x) p k q = let d : x.0 ≡ k = cc in omega arith
trigger-range m e (OnEvent x) p k q = let z : ◌≡◌ {A = ℕ} 0 1 = cc in absurd (omega arith)

every-range : (m e s : ℕ) (cells : List Cell) → Each (CellOk m e s) cells → Every (InRange m) (map as_rule_cell cells)
unfolding Each
every-range m e s [] h = tt
every-range m e s (c ∷ cells) h = ((trigger-range m e c.trigger h.0.trigger, h.0.sent), every-range m e s cells h.1)

pub cells-in-range : (t : Tables) → TablesOk t → Every (InRange t.message_count) (cells_of t)
unfolding cells_of
cells-in-range t ok = every-range t.message_count t.event_count t.state_count (stored_of t) ok.cells

-- the states of a cell are those of the tables
abbrev StatesWithin : ℕ → RuleCell → Type 0
StatesWithin n c = (c.state < n) × ((s : ℕ) → c.outcome ≡ go s → s < n)

next-within : (n : ℕ) (o : Outcome) → OutcomeOk n o → (s : ℕ) → as_rule_outcome o ≡ go s → s < n
next-within n Stall p s q = let z : ◌≡◌ {A = ℕ} 0 1 = cc in absurd (omega arith)
next-within n (Go x) p s q = let d : x.0 ≡ s = cc in omega arith

every-within : (m e s : ℕ) (cells : List Cell) → Each (CellOk m e s) cells → Every (StatesWithin s) (map as_rule_cell cells)
unfolding Each
every-within m e s [] h = tt
every-within m e s (c ∷ cells) h = ((h.0.own, next-within s c.outcome h.0.next), every-within m e s cells h.1)

states-within : (t : Tables) → TablesOk t → Every (StatesWithin t.state_count) (cells_of t)
unfolding cells_of
states-within t ok = every-within t.message_count t.event_count t.state_count (stored_of t) ok.cells

-- a `go` cell of r into s: both are states of the tables
pub leads-within : (t : Tables) → TablesOk t → (r s : ℕ) → LeadsInto (transient_of t) (cells_of t) r s → (r < t.state_count) × (s < t.state_count)
leads-within t ok r s l =
    some-every _ _ _ (λ c q w. (subst (λ (x : ℕ). x < t.state_count) q.0 w.0, w.1 s q.1)) (cells_of t) l.1 (states-within t ok)

-- and one that some cell enters
pub carries-within : (t : Tables) → TablesOk t → (a s : ℕ) → Carries (cells_of t) a s → s < t.state_count
carries-within t ok a s k = some-every _ _ _ (λ c q w. w.1 s q.0.0) (cells_of t) k (states-within t ok)

pub relations-accepted : (t : Tables) → TablesOk t → 0 < t.message_count → Accepted (relations_of_tables t)
relations-accepted t ok h = tables-accepted t.message_count (transient_of t) (cells_of t) h (cells-in-range t ok)

-- ---- rows that say the rules are these relations

module _ (t : Tables) (ok : TablesOk t) (some : 0 < t.message_count) where
  pub rows-causes : (rows : List ℕ) → CausesRows t rows → (a b : ℕ) → Rows t.message_count rows a b ↔ Causes (cells_of t) a b
  rows-causes rows f a b = (
    λ r. (f a b).0 r.bit,
    λ h. let w = (relations-accepted t ok some).causes_messages a b h in record { i_below = w.0; j_below = w.1; bit = (f a b).1 h },
  )

  pub rows-stalls : (rows : List ℕ) → StallsRows t rows → (a b : ℕ) → Rows t.message_count rows a b ↔ Stalls (transient_of t) (cells_of t) a b
  rows-stalls rows f a b = (
    λ r. (f a b).0 r.bit,
    λ h. let w = (relations-accepted t ok some).stalls_messages a b h in record { i_below = w.0; j_below = w.1; bit = (f a b).1 h },
  )
