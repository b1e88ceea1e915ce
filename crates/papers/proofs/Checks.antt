-- Laws of checks: each refusal is given only under its row, and the first given row gives it.
use mathlib.Core.Path.{◌≡◌, refl, sym, ap, ◌∙◌}
use mathlib.Core.Bool.{Bool, true, false, cond}
use mathlib.Core.List.{List, [], ◌∷◌}
use mathlib.Core.Logic.{◌⊎◌, inl, inr, ⊎_elim}
use Prim.Native.Nat.{ℕ, zero, suc, ◌<◌}
use native.Mathlib.Omega.{arith}
use lib.ListN.{length}
use Rattle.papers.specs.declared.Refusal.{Refusal}
use Rattle.papers.specs.Checks.{Check, none, first_of, row, told, FirstGiven, ToldBy, NoneGiven}

module _ (c : Check) (cs : List Check) where
  -- the first check is given
  pub first-given : c.given ≡ true → first_of (c ∷ cs) ≡ told c
  unfolding first_of
  first-given e = ap (λ (t : Bool). cond t (told c) (first_of cs)) e

  -- it is not
  pub first-passed : c.given ≡ false → first_of (c ∷ cs) ≡ first_of cs
  unfolding first_of
  first-passed e = ap (λ (t : Bool). cond t (told c) (first_of cs)) e

none_more : (c : Check) (cs : List Check) → c.given ≡ false → NoneGiven cs → NoneGiven (c ∷ cs)
none_more c cs e h = record { passed = at }
  where
    at : (j : ℕ) → j < length (c ∷ cs) → (row (c ∷ cs) j).given ≡ false
    at zero k = e
    at (suc j) k = h.passed j (omega arith)

first_more : (c : Check) (cs : List Check) (i : ℕ) → c.given ≡ false → FirstGiven cs i → FirstGiven (c ∷ cs) (suc i)
first_more c cs i e h = record { below = omega (arith, h.below); given = h.given; before = at }
  where
    at : (j : ℕ) → j < suc i → (row (c ∷ cs) j).given ≡ false
    at zero k = e
    at (suc j) k = h.before j (omega arith)

first-fewer : (c : Check) (cs : List Check) (i : ℕ) → FirstGiven (c ∷ cs) (suc i) → FirstGiven cs i
first-fewer c cs i h = record { below = omega (arith, h.below); given = h.given; before = λ j k. h.before (suc j) (omega arith) }

-- either no check is given, and nothing is refused, or the first given one tells why
pub decided : (cs : List Check) → (NoneGiven cs × (first_of cs ≡ none)) ⊎ ToldBy cs (first_of cs)
unfolding first_of
decided [] = inl (record { passed = λ j k. absurd (omega arith) }, refl)
decided (c ∷ cs) = go c.given refl (decided cs)
  where
    go : (t : Bool) → c.given ≡ t → (NoneGiven cs × (first_of cs ≡ none)) ⊎ ToldBy cs (first_of cs)
        → (NoneGiven (c ∷ cs) × (first_of (c ∷ cs) ≡ none)) ⊎ ToldBy (c ∷ cs) (first_of (c ∷ cs))
    go true e d =
        inr (record { place = 0; first = record { below = omega arith; given = e; before = λ j k. absurd (omega arith) }; is = first-given c cs e })
    go false e d =
        ⊎_elim (λ w. inl (none_more c cs e w.0, first-passed c cs e ∙ w.1))
        (λ (w : ToldBy cs (first_of cs)). inr (record { place = suc w.place; first = first_more c cs w.place e w.first; is = first-passed c cs e ∙ w.is })) d

-- each refusal is given only under its row: some check has its number and line, is given, and every earlier one is not
pub only-given : (cs : List Check) (n : ℕ) → (first_of cs).number ≡ n → (n ≡ 0 → ⊥) → ToldBy cs (first_of cs)
only-given cs n e h = ⊎_elim (λ w. absurd (h (sym e ∙ ap (λ (r : Refusal). r.number) w.1))) (λ (w : ToldBy cs (first_of cs)). w) (decided cs)

-- and the first given row gives it
pub given-first : (cs : List Check) (i : ℕ) → FirstGiven cs i → first_of cs ≡ told (row cs i)
given-first [] i h = absurd (omega (arith, h.below))
given-first (c ∷ cs) zero h = first-given c cs h.given
given-first (c ∷ cs) (suc i) h = first-passed c cs (h.before 0 (omega arith)) ∙ given-first cs i (first-fewer c cs i h)

-- a check that has a number was not given where nothing is refused
pub passed-by : (c : Check) (cs : List Check) → (c.number ≡ 0 → ⊥) → (first_of (c ∷ cs)).number ≡ 0 → (c.given ≡ false) × ((first_of cs).number ≡ 0)
passed-by c cs h e = go c.given refl
  where
    go : (t : Bool) → c.given ≡ t → (c.given ≡ false) × ((first_of cs).number ≡ 0)
    go true q = absurd (h (sym (ap (λ (r : Refusal). r.number) (first-given c cs q)) ∙ e))
    go false q = (q, sym (ap (λ (r : Refusal). r.number) (first-passed c cs q)) ∙ e)

-- Every row has a number,
abbrev pub Numbered : List Check → Type 0
Numbered cs = (i : ℕ) → i < length cs → (row cs i).number ≡ 0 → ⊥

-- and so has a refusal that one of them tells.
pub numbered : (cs : List Check) (r : Refusal) → Numbered cs → ToldBy cs r → r.number ≡ 0 → ⊥
numbered cs r f w z = f w.place w.first.below (sym (ap (λ (x : Refusal). x.number) w.is) ∙ z)
