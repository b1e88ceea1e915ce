-- Rows with what one cell adds to them.
use Prim.Native.Nat.{ℕ, ◌<◌}
use mathlib.Core.Path.{◌≡◌, sym, subst}
use mathlib.Core.Logic.{◌⊎◌, inl, inr, ⊎_elim, ◌↔◌}
use mathlib.Core.List.{List}
use native.Mathlib.Decide.{ℕ_discrete}
use lib.ListN.{length, get_or, set}
use lib.Seq.{get_or-set_same, get_or-set_other}
use Rattle.rows.specs.Rows.{Bit}
use Rattle.rows.specs.Row.{Join}
use Rattle.tables.specs.Relations.{Adds}

-- a row that takes in another
pub joins-row : (P : ℕ → Type 0) (old row new : ℕ) → Join old row new → ((b : ℕ) → Bit row b ↔ P b) → (b : ℕ) → Bit new b ↔ (Bit old b ⊎ P b)
joins-row P old row new j f b =
    (λ x. ⊎_elim (λ y. inl y) (λ y. inr ((f b).0 y)) ((j.bits b).0 x), ⊎_elim (λ y. (j.bits b).1 (inl y)) (λ y. (j.bits b).1 (inr ((f b).1 y))))

-- row k alone takes in more
pub adds-row : (R : ℕ → ℕ → Type 0) (rows : List ℕ) (k row : ℕ) → k < length rows → ((b : ℕ) → Bit row b ↔ (Bit (get_or rows k 0) b ⊎ R k b)) → ((a b : ℕ) → R a b → a ≡ k)
    → Adds R rows (set rows k row)
adds-row R rows k row h f only a b = pick (ℕ_discrete a k)
  where
    pick : Dec (a ≡ k) → Bit (get_or (set rows k row) a 0) b ↔ (Bit (get_or rows a 0) b ⊎ R a b)
    pick (yes e) = subst (λ (i : ℕ). Bit (get_or (set rows k row) i 0) b ↔ (Bit (get_or rows i 0) b ⊎ R i b)) (sym e) (rw (get_or-set_same rows k row 0 h) (f b))
    pick (no d) = rw (get_or-set_other rows k a row 0 d) (λ x. inl x, ⊎_elim (λ x. x) (λ r. absurd (d (only a b r))))
