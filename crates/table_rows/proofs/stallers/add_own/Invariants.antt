-- `table_rows::stallers::add_own` meets its contract.
use Prim.Native.Nat.{ℕ}
use mathlib.Core.List.{List}
use lib.ListN.{get_or}
use Rattle.rows.specs.Row.{With}
use Rattle.rows.proofs.FillingRows.{FillingRows}
use Rattle.table_rows.proofs.stallers.add_own.Given as goal

-- what row i becomes
abbrev pub Own : List ℕ → ℕ → ℕ → Type 0
Own old i r = With (get_or old i 0) i r

abbrev pub invariant-loop-i : goal.invariant-loop-i
invariant-loop-i l = FillingRows (Own l.initial.rows) l.n l.initial.rows l.rows l.i
