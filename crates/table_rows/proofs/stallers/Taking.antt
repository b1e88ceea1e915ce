-- The states that are taken, and their carriers joined.
use Prim.Native.Nat.{ℕ, ◌<◌}
use mathlib.Core.Path.{sym, subst, ◌∙◌}
use mathlib.Core.Logic.{inl, inr, ⊎_elim, ◌↔◌}
use mathlib.Core.List.{List}
use native.Mathlib.Decide.{dec_lt}
use native.Mathlib.Omega.{arith}
use lib.ListN.{get_or, replicate}
use Rattle.rules.specs.Walks.{Plus}
use Rattle.rules.specs.Rules.{LeadsInto, Taken, Staller}
use Rattle.rules.proofs.Chains.{plus-map}
use Rattle.rules.proofs.Decided.{plus-end}
use Rattle.rows.specs.Rows.{Bit}
use Rattle.rows.specs.Closure.{RowStep, Closure}
use Rattle.rows.specs.Gather.{Tidy, Gathered}
use Rattle.rows.proofs.Bits.{bit-zero}
use Rattle.tables.specs.declared.Tables.{Tables}
use Rattle.tables.specs.Cells.{cells_of, transient_of, TablesOk}
use Rattle.tables.specs.Relations.{CarrierRows, LeadingRows, TakenRows, StallerRows}
use Rattle.tables.proofs.InRange.{leads-within, carries-within}
use Rattle.tables.proofs.AllCells.{get_or-zeros}
use Rattle.table_rows.specs.stallers.AtCell.{OwnAdded}

module _ (t : Tables) (ok : TablesOk t) where
  abbrev Leads : ℕ → ℕ → Type 0
  Leads = LeadsInto (transient_of t) (cells_of t)

  -- what is closed is what leads
  pub taken-rows : (leading closed rows : List ℕ) → LeadingRows t leading → Closure t.state_count leading closed → OwnAdded t.state_count closed rows → TakenRows t rows
  taken-rows leading closed rows f cl own r s h = (
    λ x. ⊎_elim (λ b. inr (steps.0 ((cl.reached r s h).0 b))) (λ e. inl (sym e)) (((own.own r h).bits s).0 x),
    λ k. ((own.own r h).bits s).1 (⊎_elim (λ e. inr (sym e)) (λ w. inl ((cl.reached r s h).1 (steps.1 w))) k),
  )
    where
      steps : Plus (RowStep t.state_count leading) r s ↔ Plus Leads r s
      steps = (plus-map (λ i j p. (f i j).0 p.1) r s, plus-map (λ i j l. ((leads-within t ok i j l).0, (f i j).1 l)) r s)

  -- what a state is taken for is a state
  taken-within : (r s : ℕ) → r < t.state_count → Taken (transient_of t) (cells_of t) s r → s < t.state_count
  taken-within r s h (inl e) = omega (arith, e)
  taken-within r s h (inr w) = plus-end Leads t.state_count (leads-within t ok) r s w.0 w.1

  pub taken-tidy : (taken : List ℕ) → TakenRows t taken → Tidy t.state_count taken
  taken-tidy taken f r s h b = taken-within r s h ((f r s h).0 b)

  pub staller-rows : (carriers taken rows : List ℕ) → CarrierRows t carriers → TakenRows t taken → Gathered t.state_count carriers taken (replicate 64 0) rows → StallerRows t rows
  staller-rows carriers taken rows f k g s a = pick (dec_lt s t.state_count)
    where
      pick : Dec (s < t.state_count) → Bit (get_or rows s 0) a ↔ Staller (transient_of t) (cells_of t) a s
      pick (yes h) = (
        λ x. let u = (g.bits s a h).0 x in (u.0, (k u.0 s u.1).0 u.2, (f u.0 a).0 u.3),
        λ u. let hr = carries-within t ok a u.0 u.2 in (g.bits s a h).1 (u.0, hr, (k u.0 s hr).1 u.1, (f u.0 a).1 u.2),
      )
      pick (no h) = (
        λ x. absurd (bit-zero a (subst (λ (r : ℕ). Bit r a) (g.kept.rest s (omega arith) ∙ get_or-zeros 64 s) x)),
        λ u. absurd (h (taken-within u.0 s (carries-within t ok a u.0 u.2) u.1)),
      )
