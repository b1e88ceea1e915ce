-- `table_rows::sent::sent_row` meets its contract.
use Prim.Native.Nat.{ℕ}
use mathlib.Core.Path.{◌≡◌}
use mathlib.Core.List.{map}
use mathlib.Core.Logic.{◌↔◌}
use lib.ListN.{take}
use Rattle.rules.specs.Lists.{Some}
use Rattle.rows.specs.Rows.{Bit}
use Rattle.tables.specs.Cells.{number}
use Rattle.table_rows.proofs.sent.sent_row.Given as goal

abbrev pub invariant-loop-m : goal.invariant-loop-m
invariant-loop-m l = (b : ℕ) → Bit l.row b ↔ Some (λ y. b ≡ y) (map number (take l.m-index l.sent))
