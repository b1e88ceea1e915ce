-- Laws of the field that is told.
use Prim.Native.Nat.{ℕ, zero, suc, ◌<◌}
use mathlib.Core.Path.{◌≡◌, refl, ap, ◌∙◌}
use mathlib.Core.Bool.{Bool, true, false, cond}
use mathlib.Core.List.{List, [], ◌∷◌}
use mathlib.Core.Logic.{◌⊎◌, inl, inr, ⊎_elim}
use native.Mathlib.Omega.{arith}
use Rattle.papers.specs.Fields.{Looked, first_bad_field, looked_at, BadAt, AllGood, FromOne}

module _ (l : Looked) (ls : List Looked) where
  -- the first field is bad
  pub bad-first : l.bad ≡ true → first_bad_field (l ∷ ls) ≡ l.field
  unfolding first_bad_field
  bad-first e = ap (λ (t : Bool). cond t l.field (first_bad_field ls)) e

  -- it is good
  pub good-first : l.bad ≡ false → first_bad_field (l ∷ ls) ≡ first_bad_field ls
  unfolding first_bad_field
  good-first e = ap (λ (t : Bool). cond t l.field (first_bad_field ls)) e

-- either no field is bad, and none is told, or the first bad one is told
pub field_told : (ls : List Looked) → (AllGood ls × (first_bad_field ls ≡ 0)) ⊎ BadAt ls (first_bad_field ls)
unfolding first_bad_field
field_told [] = inl (λ j h. absurd (omega arith), refl)
field_told (l ∷ ls) = go l.bad refl (field_told ls)
  where
    go : (t : Bool) → l.bad ≡ t → (AllGood ls × (first_bad_field ls ≡ 0)) ⊎ BadAt ls (first_bad_field ls) → (AllGood (l ∷ ls) × (first_bad_field (l ∷ ls) ≡ 0)) ⊎ BadAt (l ∷ ls) (first_bad_field (l ∷ ls))
    go true e d = inr (record { place = 0; below = omega arith; is = bad-first l ls e; bad = e; before = λ j h. absurd (omega arith) })
    go false e (inl w) = inl (good, good-first l ls e ∙ w.1)
      where
        good : AllGood (l ∷ ls)
        good zero h = e
        good (suc j) h = w.0 j (omega arith)
    go false e (inr w) = inr (record { place = suc w.place; below = omega (arith, w.below); is = good-first l ls e ∙ w.is; bad = w.bad; before = good })
      where
        good : (j : ℕ) → j < suc w.place → (looked_at (l ∷ ls) j).bad ≡ false
        good zero h = e
        good (suc j) h = w.before j (omega arith)

-- a field is told only where one is bad
pub told-bad : (ls : List Looked) → 0 < first_bad_field ls → BadAt ls (first_bad_field ls)
told-bad ls h = ⊎_elim (λ w. absurd (omega (arith, w.1))) (λ w. w) (field_told ls)

-- and none only where all are good
pub none-bad : (ls : List Looked) → FromOne ls → first_bad_field ls ≡ 0 → AllGood ls
none-bad ls f e = ⊎_elim (λ w. w.0) (λ w. absurd (omega (arith, f w.place w.below, w.is))) (field_told ls)
