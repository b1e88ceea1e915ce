-- Rule 3, cell by cell.
use Prim.Native.Nat.{ℕ}
use mathlib.Core.Path.{◌≡◌, refl, sym, subst}
use mathlib.Core.Logic.{◌↔◌}
use mathlib.Core.Bool.{Bool}
use mathlib.Core.List.{List}
use Rattle.rules.specs.Lists.{Some}
use Rattle.rules.specs.Rules.{Staller, Stalls, message, stall, Cell as RuleCell}
use Rattle.rules.proofs.Entry.{some-map, some-get}
use Rattle.table_rows.specs.stalls.AtCell.{CellStalls}

-- a stall cell, and the stallers of its state
pub stalls-cells : (C : ℕ → ℕ → Type 0) (transient : ℕ → Bool) (cells : List RuleCell) → ((a s : ℕ) → C a s ↔ Staller transient cells a s) → (a b : ℕ) → Some (λ c. CellStalls C c a b) cells ↔ Stalls transient cells a b
stalls-cells C transient cells f a b = (
  λ h. let r = some-get (λ c. CellStalls C c a b) cells h in (
    r.0.state,
    r.2 (λ c. (c.state ≡ r.0.state) × (c.trigger ≡ message b) × (c.outcome ≡ stall)) (refl, r.1.0, r.1.1),
    (f a r.0.state).0 r.1.2,
  ),
  λ t. some-map (λ c. (c.state ≡ t.0) × (c.trigger ≡ message b) × (c.outcome ≡ stall)) (λ c. CellStalls C c a b)
      (λ c q. (q.1, q.2, (f a c.state).1 (subst (Staller transient cells a) (sym q.0) t.2))) cells t.1,
)
