-- `table_rows::entries::no_entry` meets its contract.
use Prim.Native.Nat.{◌<◌}
use mathlib.Core.Path.{sym, subst}
use mathlib.Core.Logic.{◌↔◌}
use lib.ListN.{get_or}
use Rattle.std.proofs.Common.{rules, tests}
use Rattle.std.proofs.lemmas.Iterator.{YieldsList-from_slice, IsFirst-from_position}
use Rattle.std.proofs.lemmas.Iterator.Adapters.{serves_from_places}
use Rattle.rows.specs.Rows.{Bit}
use Rattle.tables.specs.declared.Cell.{Cell}
use Rattle.tables.specs.Cells.{as_rule_cell, CellOk, transient_of, cells_of}
use Rattle.tables.proofs.InRange.{cells-ok}
use Rattle.tables.proofs.Gather.{each_at}
use Rattle.table_rows.specs.entries.AtCell.{CellNoEntry}
use Rattle.table_rows.proofs.entries.AtCell.{Lacks, no-entry-row, first-found}
use Rattle.table_rows.proofs.entries.no_entry.Goals as goal

pub position-requires-clause-callable : goal.position-requires-clause-callable
position-requires-clause-callable c =
    let cells = c.cells.result.now in
    serves_from_places (YieldsList-from_slice cells (cc)) (λ x q k. search (rules, tests))
    (λ x k h e.
    let ok : CellOk 64 8 64 x.now = subst (CellOk 64 8 64) (sym e) (each_at (CellOk 64 8 64) cells k x.now (rw c.cells.ensures.rows (cells-ok c.args.t.now c.requires)) h) in
    let small : x.now.state.0 < 64 = ok.own in
    search (rules, tests))

pub returns : goal.returns
returns c =
    let t = c.args.t.now in
    let s = c.staller_rows-stallers in
    -- what the code asks of a cell, and what the rules say of it
    let asked : (d : Cell) → CellNoEntry (Bit (get_or s.result d.state.0 0)) (as_rule_cell d) ↔ Lacks t d =
    λ d. no-entry-row (transient_of t) (cells_of t) (Bit (get_or s.result d.state.0 0)) (as_rule_cell d) (λ a. s.ensures d.state.0 a) in
    let first = IsFirst-from_position _ _ _ (Lacks t) (λ (d : Cell). ¬ Lacks t d) c.position.ensures.ran (YieldsList-from_slice c.cells.result.now (cc))
    (λ x q k. let yes : CellNoEntry (Bit (get_or s.result x.now.state.0 0)) (as_rule_cell x.now) = search (rules, tests) in (asked x.now).0 yes)
    (λ x q k. let no : ¬ CellNoEntry (Bit (get_or s.result x.now.state.0 0)) (as_rule_cell x.now) = search (rules, tests) in (search (rules, tests), λ h. no ((asked x.now).1 h))) in
    first-found t (rw c.cells.ensures.rows at c.cells.ensures.many) c.position.result (rw c.cells.ensures.rows at first)
