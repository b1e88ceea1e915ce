-- What all the cells give: the loops over the cells.
use Prim.Native.Nat.{ℕ, ◌+◌, ◌≤◌, ◌<◌}
use mathlib.Core.Path.{◌≡◌, subst}
use mathlib.Core.Logic.{◌↔◌}
use mathlib.Core.List.{List, map}
use native.Mathlib.Omega.{arith}
use lib.ListN.{length, take, get_or, replicate, get_or-replicate, length-replicate, get_or-eq_default}
use native.Mathlib.Decide.{dec_lt}
use Rattle.rules.specs.Lists.{Some}
use Rattle.rules.specs.Rules.{Cell as RuleCell}
use Rattle.rows.specs.Rows.{Bit}
use Rattle.rows.proofs.Bits.{bit-zero}
use Rattle.tables.specs.declared.Cell.{Cell}
use Rattle.tables.specs.Cells.{as_rule_cell}
use Rattle.tables.specs.Relations.{Adds, RowsOf}
use Rattle.tables.proofs.Gather.{gather_none, gather-more, gather-all}

pub get_or-zeros : (n a : ℕ) → ◌≡◌ {A = ℕ} (get_or (replicate n 0) a 0) 0
get_or-zeros n a = pick (dec_lt a n)
  where
    pick : Dec (a < n) → ◌≡◌ {A = ℕ} (get_or (replicate n 0) a 0) 0
    pick (yes h) = get_or-replicate n a 0 0 h
    pick (no g) = get_or-eq_default (replicate n 0) 0 (omega (arith, length-replicate {A = ℕ} n 0))

-- the rows say what the first i cells give
abbrev pub Upto : (RuleCell → ℕ → ℕ → Type 0) → List Cell → ℕ → List ℕ → Type 0
Upto R cells i rows = (a b : ℕ) → Bit (get_or rows a 0) b ↔ Some (λ c. R c a b) (map as_rule_cell (take i cells))

module _ (R : RuleCell → ℕ → ℕ → Type 0) (cells : List Cell) where
  pub upto-none : (n : ℕ) → Upto R cells 0 (replicate n 0)
  upto-none n a b = gather_none as_rule_cell (λ c. R c a b) (Bit (get_or (replicate n 0) a 0) b) cells (λ h. bit-zero b (subst (λ (r : ℕ). Bit r b) (get_or-zeros n a) h))

  pub upto-more : (i : ℕ) (z : Cell) (rows new : List ℕ) → i < length cells → Adds (R (as_rule_cell (get_or cells i z))) rows new → Upto R cells i rows → Upto R cells (i + 1) new
  upto-more i z rows new h e g a b = gather-more as_rule_cell (λ c. R c a b) (Bit (get_or rows a 0) b) (Bit (get_or new a 0) b) cells i z h (e a b) (g a b)

  pub upto-all : (i : ℕ) (rows : List ℕ) → length cells ≤ i → Upto R cells i rows → RowsOf (λ a b. Some (λ c. R c a b) (map as_rule_cell cells)) rows
  upto-all i rows h g a b = gather-all as_rule_cell (λ c. R c a b) (Bit (get_or rows a 0) b) cells i h (g a b)
