-- The checks 12 and 13, which are asked of the whole text.
use Prim.Native.Nat.{ℕ, ◌≤◌, ◌<◌}
use mathlib.Core.Path.{◌≡◌, refl, sym, ap, ◌∙◌}
use mathlib.Core.Logic.{◌⊎◌, inl, inr}
use mathlib.Core.Bool.{Bool, true, false, decide}
use mathlib.Core.List.{List, [], ◌∷◌, map}
use native.Mathlib.Nat.{eq-or-lt_of_le}
use native.Mathlib.Omega.{arith}
use lib.ListN.{length, get_or, take}
use lib.Seq.{length-take-le, get_or-take}
use borrow.Author.Tests.{eq-eqb, ne_eqb, lt-ltb, le-ltb}
use Rattle.rules.proofs.Entry.{no-entry?}
use Rattle.text.specs.Parts.{first_index}
use Rattle.text.proofs.Parts.{first-at, first-none, first-le, first-before, first_passes}
use Rattle.papers.specs.Checks.{first_of, refusal, none}
use Rattle.tables.specs.declared.Cell.{Cell}
use Rattle.tables.specs.declared.Tables.{Tables}
use Rattle.tables.specs.Tables.{no_cell_lem}
use Rattle.tables.specs.Cells.{as_rule_cell, cells_of, transient_of}
use Rattle.tables.specs.Relations.{cell_at, FirstNoEntry}
use Rattle.protocol.specs.whole.Whole.{has_no_entry, no_entry_at, cell_line_lem, whole_refusal}

module _ {P : Type 0} where
  decided-yes : (d : Dec P) → P → decide d ≡ true
  unfolding decide
  decided-yes (yes p) q = refl
  decided-yes (no g) q = absurd (g q)

  decided-no : (d : Dec P) → ¬ P → decide d ≡ false
  unfolding decide
  decided-no (yes p) g = absurd (g p)
  decided-no (no g) h = refl

  pub decided-false : (d : Dec P) → decide d ≡ false → ¬ P
  unfolding decide
  decided-false (yes p) e g = let z : ◌≡◌ {A = ℕ} 0 1 = cc in omega arith
  decided-false (no f) e g = f g

  pub decided-true : (d : Dec P) → decide d ≡ true → P
  unfolding decide
  decided-true (yes p) e = p
  decided-true (no f) e = absurd (let z : ◌≡◌ {A = ℕ} 0 1 = cc in omega arith)

module _ {A B : Type 0} (p : B → Bool) (g : A → B) where
  -- the first that passes, among what a list is turned into
  first-map : (l : List A) → first_index p (map g l) ≡ first_index (λ x. p (g x)) l
  unfolding first_index
  first-map [] = refl
  first-map (x ∷ l) = rw (first-map l) refl

-- the code's answer is the place that the definition names
pub entry_place : (t : Tables) (r : ℕ) → length t.cells ≡ 512 → t.cell_count ≤ 512 → FirstNoEntry t r → no_entry_at t ≡ r
unfolding no_entry_at cells_of
entry_place t r long few h = first-map (has_no_entry (transient_of t) (cells_of t)) as_rule_cell (take t.cell_count t.cells) ∙ go (eq-or-lt_of_le h.within)
  where
    p : Cell → Bool
    p c = has_no_entry (transient_of t) (cells_of t) (as_rule_cell c)

    before : (j : ℕ) → j < r → p (get_or t.cells j no_cell_lem) ≡ false
    before j k = decided-no (no-entry? (transient_of t) (cells_of t) (cell_at t j)) (h.earlier j k)

    go : (r ≡ t.cell_count) ⊎ (r < t.cell_count) → first_index p (take t.cell_count t.cells) ≡ r
    go (inl e) = first-none p t.cells t.cell_count no_cell_lem (omega arith) (λ j k. before j (omega arith)) ∙ sym e
    go (inr k) = first-at p t.cells t.cell_count r no_cell_lem k (omega arith) before (decided-yes (no-entry? (transient_of t) (cells_of t) (cell_at t r)) (h.found k))

-- the definition names the first cell that has no entry
pub first-no-entry : (t : Tables) → length t.cells ≡ 512 → t.cell_count ≤ 512 → FirstNoEntry t (no_entry_at t)
unfolding no_entry_at cells_of
first-no-entry t long few =
    let n = t.cell_count in
    let q = first-map (has_no_entry (transient_of t) (cells_of t)) as_rule_cell (take n t.cells) in
    let size : length (take n t.cells) ≡ n = length-take-le n t.cells (omega arith) in
    let le = first-le p (take n t.cells) in
    record {
      within = omega (arith, q, size, le);
      earlier = λ i h.
          decided-false (no-entry? (transient_of t) (cells_of t) (cell_at t i))
          (ap p (sym (get_or-take n t.cells i no_cell_lem (omega (arith, q, size, le, h)))) ∙ first-before p (take n t.cells) no_cell_lem i (omega (arith, q, h)));
      found = λ h.
          decided-true (no-entry? (transient_of t) (cells_of t) (cell_at t (no_entry_at t)))
          (ap p (sym (get_or-take n t.cells (no_entry_at t) no_cell_lem h))
          ∙ ap (λ (i : ℕ). p (get_or (take n t.cells) i no_cell_lem)) q
          ∙ first_passes p (take n t.cells) no_cell_lem (omega (arith, q, size, h)));
    }
  where
    p : Cell → Bool
    p c = has_no_entry (transient_of t) (cells_of t) (as_rule_cell c)

pub no-message : (t : Tables) → t.message_count ≡ 0 → refusal 12 0 ≡ whole_refusal t
unfolding whole_refusal first_of
no-message t e = rw (eq-eqb t.message_count 0 e) refl

pub no-entry : (t : Tables) (r : ℕ) → (t.message_count ≡ 0 → ⊥) → no_entry_at t ≡ r → r < t.cell_count → refusal 13 (cell_line_lem t r) ≡ whole_refusal t
unfolding whole_refusal first_of
no-entry t r g e h = rw (ne_eqb t.message_count 0 g, e, lt-ltb r t.cell_count h) refl

pub all_right : (t : Tables) (r : ℕ) → (t.message_count ≡ 0 → ⊥) → no_entry_at t ≡ r → t.cell_count ≤ r → none ≡ whole_refusal t
unfolding whole_refusal first_of
all_right t r g e h = rw (ne_eqb t.message_count 0 g, e, le-ltb r t.cell_count h) refl
