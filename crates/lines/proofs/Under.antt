-- Each refusal of a line is given only under its row of the table, and only where no smaller number is.
use Prim.Native.Nat.{ℕ, zero, suc, ◌+◌, ◌<◌}
use mathlib.Core.Path.{◌≡◌, refl, ap, subst}
use mathlib.Core.Bool.{true, false}
use mathlib.Core.List.{List, [], ◌∷◌}
use native.Mathlib.Omega.{arith}
use lib.ListN.{length}
use borrow.Author.Tests.{not-true}
use Rattle.papers.specs.declared.Refusal.{Refusal}
use Rattle.papers.specs.Checks.{Check, first_of, row, FirstGiven}
use Rattle.papers.proofs.Checks.{only-given}
use Rattle.tables.specs.declared.Tables.{Tables}
use Rattle.text.specs.Line.{Line}
use Rattle.lines.specs.Line.{Section, section_of}
use Rattle.lines.specs.Checks.{shaped, later_read, bad_name, is_not_known, twice, full, stall_in_stable, conflict, section_checks, line_checks, line_refusal}

-- The numbers of the checks go up from n by one.
pub data Rising : ℕ → List Check → Type 0 where
  no_more : {n : ℕ} → Rising n []
  one_more : {n : ℕ} {c : Check} {cs : List Check} → c.number ≡ n → Rising (suc n) cs → Rising n (c ∷ cs)

rising-at : {n : ℕ} {cs : List Check} → Rising n cs → (i : ℕ) → i < length cs → (row cs i).number ≡ n + i
rising-at no_more i h = absurd (omega arith)
rising-at (one_more e o) zero h = omega arith
rising-at (one_more e o) (suc i) h = let q = rising-at o i (omega arith) in omega arith

-- a refusal with the number of row i is given where that row is the first
pub under-row : {n : ℕ} {cs : List Check} → Rising n cs → (i : ℕ) → 0 < n → (first_of cs).number ≡ n + i → FirstGiven cs i
under-row {n} {cs} o i h e =
    let w = only-given cs (n + i) e (λ z. omega arith) in
    let q = rising-at o w.place w.first.below in
    let s = ap (λ (r : Refusal). r.number) w.is in
    let p : w.place ≡ i = omega arith in
    subst (λ (j : ℕ). FirstGiven cs j) p w.first

eight : (s : Section) (t : Tables) (k : ℕ) (f : Line) → Rising 4 (section_checks s t k f)
eight s t k f = one_more refl (one_more refl (one_more refl (one_more refl (one_more refl (one_more refl (one_more refl (one_more refl no_more)))))))

module _ (t : Tables) (k : ℕ) (f : Line) where
  -- the line is refused with number 4 + i under the row of that number
  pub line-under : (i : ℕ) → (line_refusal t k f).number ≡ 4 + i → FirstGiven (line_checks t k f) i
  unfolding line_refusal
  line-under i e = under-row (eight (section_of f) t k f) i (omega arith) e

  pub under-shape : (line_refusal t k f).number ≡ 4 → shaped (section_of f) f ≡ false
  under-shape e = not-true (shaped (section_of f) f) (line-under 0 e).given

  pub under-order : (line_refusal t k f).number ≡ 5 → later_read (section_of f) t ≡ true
  under-order e = (line-under 1 e).given

  pub under-name : (line_refusal t k f).number ≡ 6 → bad_name (section_of f) f ≡ true
  under-name e = (line-under 2 e).given

  pub under-unknown : (line_refusal t k f).number ≡ 7 → is_not_known (section_of f) t f ≡ true
  under-unknown e = (line-under 3 e).given

  pub under_twice : (line_refusal t k f).number ≡ 8 → twice (section_of f) t f ≡ true
  under_twice e = (line-under 4 e).given

  pub under-full : (line_refusal t k f).number ≡ 9 → full (section_of f) t ≡ true
  under-full e = (line-under 5 e).given

  pub under-stable : (line_refusal t k f).number ≡ 10 → stall_in_stable (section_of f) t f ≡ true
  under-stable e = (line-under 6 e).given

  pub under-conflict : (line_refusal t k f).number ≡ 11 → conflict (section_of f) t f ≡ true
  under-conflict e = (line-under 7 e).given
