-- A text that is accepted gives tables to reason about: numbers in range, what is past a count as cleared, and a message.
use Prim.Native.Nat.{ℕ, ◌<◌}
use mathlib.Core.Path.{◌≡◌, refl, sym, ap, ◌∙◌, subst}
use mathlib.Core.Bool.{false}
use mathlib.Core.List.{List, [], ◌∷◌}
use native.Mathlib.Omega.{arith}
use lib.Dec.{eqb, ltb}
use borrow.Author.Tests.{eqb-false, ltb-false}
use Rattle.rules.specs.Rules.{NoEntry}
use Rattle.papers.specs.Checks.{check}
use Rattle.papers.proofs.Checks.{passed-by}
use Rattle.tables.specs.declared.Tables.{Tables}
use Rattle.tables.specs.Cells.{cells_of, transient_of, TablesOk}
use Rattle.tables.specs.Relations.{cell_at}
use Rattle.tables.proofs.InRange.{relations-accepted}
use Rattle.protocol.specs.whole.Whole.{Reading}
use Rattle.protocol.specs.whole.Whole.{no_entry_at, cell_line_lem, whole_refusal}
use Rattle.protocol.specs.whole.Kept.{Kept}
use Rattle.protocol.specs.Reading.{read_protocol_lem}
use Rattle.reading_laws.specs.protocols.Promises.{at_end, AcceptedReading, AcceptedKept}
use Rattle.protocol.proofs.whole.Whole.{first-no-entry}
use Rattle.reading_laws.proofs.protocols.Why.{all_read, kept-end}

-- what is known of tables that neither 12 nor 13 refuses
module _ (t : Tables) (z : (whole_refusal t).number ≡ 0) where
  both : (eqb t.message_count 0 ≡ false) × (ltb (no_entry_at t) t.cell_count ≡ false)
  unfolding whole_refusal
  both =
      let p = passed-by (check 12 0 (eqb t.message_count 0)) (check 13 (cell_line_lem t (no_entry_at t)) (ltb (no_entry_at t) t.cell_count) ∷ []) (λ q. omega arith) z in
      (p.0, (passed-by (check 13 (cell_line_lem t (no_entry_at t)) (ltb (no_entry_at t) t.cell_count)) [] (λ q. omega arith) p.1).0)

  some_message : 0 < t.message_count
  some_message = omega (arith, eqb-false t.message_count 0 both.0)

  all-entries : Kept t → (i : ℕ) → i < t.cell_count → ¬ NoEntry (transient_of t) (cells_of t) (cell_at t i)
  all-entries k i h = (first-no-entry t k.long k.ok.few).earlier i (omega (arith, ltb-false (no_entry_at t) t.cell_count both.1))

pub accepted-kept : AcceptedKept
accepted-kept text z =
    let w = all_read text z in
    let t = at_end text in
    let k = kept-end text w.before in
    let some = some_message t w.whole in
    subst AcceptedReading (sym w.is) (record { line = refl; kept = k; some = some; entries = all-entries t w.whole k; relations = relations-accepted t k.ok some })

-- what a call asks of the tables that it got
pub call-ready : (text : List ℕ) (x : Reading) → x ≡ read_protocol_lem text → x.refusal.number ≡ 0 → TablesOk x.tables × (0 < x.tables.message_count)
call-ready text x is z =
    let good = accepted-kept text (ap (λ (y : Reading). y.refusal.number) (sym is) ∙ z) in
    subst (λ (y : Reading). TablesOk y.tables × (0 < y.tables.message_count)) (sym is) (good.kept.ok, good.some)
