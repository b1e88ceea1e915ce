-- The contracts determine the answers: two that they allow are equal. A row of w bits is below 2 ^ w.
use Prim.Native.Nat.{ℕ}
use mathlib.Core.List.{List}
use lib.ListN.{replicate}
use Rattle.determined.specs.Determined.{Determines}
use Rattle.rules.specs.Rules.{Mapping}
use Rattle.rules.proofs.Unique.{pairs-one}
use Rattle.rows.specs.Rows.{Rows}
use Rattle.rows.specs.Determined.{DeterminesRows}
use Rattle.rows.proofs.Determined.{relation-one}
use Rattle.waits.specs.Waiting.{WaitsRows, WaitsOnly, RowPairs}
use Rattle.waits.specs.steps.Steps.{StepsRows}

pub waits_one : (w n : ℕ) (causes stalls old : List ℕ) → DeterminesRows w (WaitsRows n causes stalls old)
waits_one w n causes stalls old r s hr hs f g = relation-one _ w n old r s hr hs (f.bits, f.kept) (g.bits, g.kept)

pub waits-of-one : (w most n : ℕ) (causes stalls : List ℕ) → DeterminesRows w (WaitsOnly most n causes stalls)
waits-of-one w most n causes stalls = waits_one w n causes stalls (replicate most 0)

pub row-pairs-one : (n : ℕ) (rows : List ℕ) → Determines (RowPairs n rows)
row-pairs-one n rows j k s t = pairs-one (Rows n rows) n n j k s.counted t.counted

pub steps-of-one : (w most : ℕ) (waits stalls : List ℕ) (φ : Mapping) (n : ℕ) → DeterminesRows w (StepsRows most waits stalls φ n)
steps-of-one w most waits stalls φ n r s hr hs f g = relation-one _ w n (replicate most 0) r s hr hs (f.bits, f.kept) (g.bits, g.kept)
