-- The rows of waits that are made out of a table's rows of causes and stalls are those of the rules.
use Prim.Native.Nat.{ℕ, ◌<◌}
use mathlib.Core.Path.{subst, ◌∙◌}
use mathlib.Core.Logic.{◌↔◌}
use mathlib.Core.List.{List}
use native.Mathlib.Decide.{dec_lt}
use native.Mathlib.Omega.{arith}
use lib.ListN.{get_or, replicate}
use Rattle.rules.specs.Rules.{Relations, Waits}
use Rattle.rules.specs.Promises.{Accepted}
use Rattle.rules.proofs.Chains.{plus-map}
use Rattle.rules.proofs.Decided.{waits-within}
use Rattle.rows.specs.Rows.{Bit, Rows, of_rows}
use Rattle.rows.proofs.Bits.{bit-zero}
use Rattle.rows.specs.Gather.{Tidy}
use Rattle.waits.specs.Waiting.{WaitsRows}
use Rattle.tables.specs.declared.Tables.{Tables}
use Rattle.tables.specs.Cells.{relations_of_tables, TablesOk}
use Rattle.tables.specs.Relations.{CausesRows, StallsRows}
use Rattle.tables.proofs.InRange.{relations-accepted, rows-causes, rows-stalls}
use Rattle.tables.proofs.AllCells.{get_or-zeros}
use Rattle.verdicts.specs.Verdicts.{WaitsOf}

module _ (t : Tables) (ok : TablesOk t) (some : 0 < t.message_count) where
  pub causes-tidy : (rows : List ℕ) → CausesRows t rows → Tidy t.message_count rows
  causes-tidy rows f i j h b = ((relations-accepted t ok some).causes_messages i j ((f i j).0 b)).1

  pub stalls-tidy : (rows : List ℕ) → StallsRows t rows → Tidy t.message_count rows
  stalls-tidy rows f i j h b = ((relations-accepted t ok some).stalls_messages i j ((f i j).0 b)).1

  module _ (causes stalls : List ℕ) (f : CausesRows t causes) (g : StallsRows t stalls) where
    same : (b c : ℕ) → Waits (of_rows t.message_count causes stalls) b c ↔ Waits (relations_of_tables t) b c
    same b c = (
      λ w. (w.0, (rows-stalls t ok some stalls g w.0 b).0 w.1, plus-map (λ i j. (rows-causes t ok some causes f i j).0) w.0 c w.2),
      λ w. (w.0, (rows-stalls t ok some stalls g w.0 b).1 w.1, plus-map (λ i j. (rows-causes t ok some causes f i j).1) w.0 c w.2),
    )

    pub waits-told : (rows : List ℕ) → WaitsRows t.message_count causes stalls (replicate 64 0) rows → WaitsOf (relations_of_tables t) rows
    waits-told rows w b c = go (dec_lt b t.message_count)
      where
        go : Dec (b < t.message_count) → Bit (get_or rows b 0) c ↔ Waits (relations_of_tables t) b c
        go (yes h) = (λ x. (same b c).0 ((w.bits b c h).0 x), λ x. (w.bits b c h).1 ((same b c).1 x))
        go (no h) = (
          λ x. absurd (bit-zero c (subst (λ (r : ℕ). Bit r c) (w.kept.rest b (omega arith) ∙ get_or-zeros 64 b) x)),
          λ x. absurd (h (waits-within (relations_of_tables t) (relations-accepted t ok some) b c x).0),
        )

-- rows that tell the waits, as steps among the messages
pub rows-waits : (p : Relations) → Accepted p → (rows : List ℕ) → WaitsOf p rows → (b c : ℕ) → Rows p.count rows b c ↔ Waits p b c
rows-waits p acc rows w b c = (λ r. (w b c).0 r.bit, λ x. let h = waits-within p acc b c x in record { i_below = h.0; j_below = h.1; bit = (w b c).1 x })
