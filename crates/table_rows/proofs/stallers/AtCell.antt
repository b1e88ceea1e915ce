-- Where states lead, cell by cell.
use Prim.Native.Nat.{ℕ}
use mathlib.Core.Path.{◌≡◌, sym, subst}
use mathlib.Core.Logic.{◌↔◌}
use mathlib.Core.Bool.{Bool, true}
use mathlib.Core.List.{List}
use Rattle.rules.specs.Lists.{Some}
use Rattle.rules.specs.Rules.{LeadsInto, Cell as RuleCell}
use Rattle.rules.proofs.Entry.{some-map, some-get, GoesInto}
use Rattle.table_rows.specs.stallers.AtCell.{CellLeads}

pub leads-cells : (transient : ℕ → Bool) (cells : List RuleCell) (r s : ℕ) → Some (λ c. CellLeads (transient c.state) c r s) cells ↔ LeadsInto transient cells r s
leads-cells transient cells r s = (
  λ h. let u = some-get (λ c. CellLeads (transient c.state) c r s) cells h in
      (subst (λ (x : ℕ). transient x ≡ true) u.1.1 u.1.0, u.2 (GoesInto r s) (u.1.1, u.1.2)),
  λ l. some-map (GoesInto r s) (λ c. CellLeads (transient c.state) c r s) (λ c q. (subst (λ (x : ℕ). transient x ≡ true) (sym q.0) l.0, q.0, q.1)) cells l.1,
)
