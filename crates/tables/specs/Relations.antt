-- What the rows say: rules 1 to 3 over all the cells, and refusal 13.
use Rattle.std.specs.Prelude.{ℕ, ◌≤◌, ◌<◌, ◌⊎◌, ◌↔◌, List, get_or, Option, None, Some}
use Rattle.rules.specs.Rules.{Causes, Carries, LeadsInto, Taken, Staller, Stalls, NoEntry, Cell as RuleCell}
use Rattle.rows.specs.Rows.{Bit}
use Rattle.tables.specs.declared.Tables.{Tables}
use Rattle.tables.specs.Tables.{no_cell_lem}
use Rattle.tables.specs.Cells.{as_rule_cell, cells_of, transient_of}

-- Bit b of row a says that a is in the relation R to b, for all numbers: no other bit is set, and what has no row is in no relation.
abbrev pub RowsOf : (ℕ → ℕ → Type 0) → List ℕ → Type 0
RowsOf R rows = (a b : ℕ) → Bit (get_or rows a 0) b ↔ R a b

-- The rows with what R adds to them.
abbrev pub Adds : (ℕ → ℕ → Type 0) → List ℕ → List ℕ → Type 0
Adds R old new = (a b : ℕ) → Bit (get_or new a 0) b ↔ (Bit (get_or old a 0) b ⊎ R a b)

-- Rule 1: bit b of row a says that a causes b.
abbrev pub CausesRows : Tables → List ℕ → Type 0
CausesRows t rows = RowsOf (Causes (cells_of t)) rows

-- Rule 2: bit a of row s says that a is a carrier of some cell that enters s.
abbrev pub CarrierRows : Tables → List ℕ → Type 0
CarrierRows t rows = RowsOf (λ s a. Carries (cells_of t) a s) rows

-- Rule 3: bit s of row r says that r is transient and has a `go` cell into s.
abbrev pub LeadingRows : Tables → List ℕ → Type 0
LeadingRows t rows = RowsOf (LeadsInto (transient_of t) (cells_of t)) rows

-- Rule 3: bit s of row r says that r is taken for s, for every state r of the tables.
abbrev pub TakenRows : Tables → List ℕ → Type 0
TakenRows t rows = (r s : ℕ) → r < t.state_count → Bit (get_or rows r 0) s ↔ Taken (transient_of t) (cells_of t) s r

-- Rule 3: bit a of row s says that a is a staller of what is stalled in s.
abbrev pub StallerRows : Tables → List ℕ → Type 0
StallerRows t rows = RowsOf (λ s a. Staller (transient_of t) (cells_of t) a s) rows

-- Rule 3: bit b of row a says that a stalls b.
abbrev pub StallsRows : Tables → List ℕ → Type 0
StallsRows t rows = RowsOf (Stalls (transient_of t) (cells_of t)) rows

-- Cell number i.
abbrev pub cell_at : Tables → ℕ → RuleCell
cell_at t i = as_rule_cell (get_or t.cells i no_cell_lem)

-- r is the first cell of a stalled message for whose state no taken state has a carrier, or the number of cells where there is none.
pub record FirstNoEntry (t : Tables) (r : ℕ) : Type 0 where
  pub within : r ≤ t.cell_count
  pub earlier : (i : ℕ) → i < r → ¬ NoEntry (transient_of t) (cells_of t) (cell_at t i)
  pub found : r < t.cell_count → NoEntry (transient_of t) (cells_of t) (cell_at t r)

-- What a search for that cell finds: its number, or nothing where there is none.
abbrev pub NoEntryFound : Tables → Option ℕ → Type 0
NoEntryFound t None = FirstNoEntry t t.cell_count
NoEntryFound t (Some r) = FirstNoEntry t r × (r < t.cell_count)
