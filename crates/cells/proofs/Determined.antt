-- The public contract determines what the function gives back.
use Prim.Native.Nat.{ℕ}
use mathlib.Core.Path.{◌≡◌, sym, ◌∙◌}
use mathlib.Core.List.{List}
use Rattle.std.proofs.lemmas.Result.{IfOk-at_ok}
use Rattle.determined.specs.Determined.{Determines}
use Rattle.text.specs.Parts.{split}
use Rattle.papers.proofs.Refusals.{refusal-injective}
use Rattle.tables.specs.declared.Cell.{Cell}
use Rattle.tables.specs.declared.Tables.{Tables}
use Rattle.lines.specs.Line.{cell_of}
use Rattle.cells.specs.Told.{CellTold}

pub cell-line-determined : (k : ℕ) (line : List ℕ) (t : Tables) → Determines (CellTold k line t)
cell-line-determined k line t r s p q =
    let is = λ (c : Cell). c ≡ cell_of t (split 9 line) in
    refusal-injective r s (sym p.told ∙ q.told) (λ x y e f. IfOk-at_ok is e p.cell ∙ sym (IfOk-at_ok is f q.cell))
