-- The numbers, lines and fields that checks tell.
use Prim.Native.Nat.{ℕ, ◌-◌, ◌≤◌}
use mathlib.Core.Path.{◌≡◌, refl, sym, subst}
use mathlib.Core.Bool.{Bool, true, false}
use mathlib.Core.List.{List, [], ◌∷◌, drop_last}
use native.Mathlib.Omega.{arith}
use lib.ListN.{length, drop, length-drop}
use Rattle.text.specs.Parts.{split, lines}
use Rattle.text.proofs.Parts.{many-le}
use Rattle.text.proofs.Lines.{split-many}
use Rattle.papers.specs.declared.Refusal.{Refusal}
use Rattle.papers.specs.Checks.{Check, first_of}
use Rattle.papers.specs.Opening.{opening_checks, opening_of}
use Rattle.papers.proofs.Checks.{first-given, first-passed}
use Rattle.lines.proofs.FieldTold.{first-fields}
use Rattle.reading_laws.specs.bounds.Bounds.{Low}

-- Every check of the list tells a number up to 15 and a line up to 49,153.
abbrev pub AllLow : List Check → Type 0
AllLow [] = Unit {0}
AllLow (c ∷ cs) = ((c.number ≤ 15) × (c.line ≤ 49153)) × AllLow cs

-- and so does the first that is given
told-low : (cs : List Check) → AllLow cs → ((first_of cs).number ≤ 15) × ((first_of cs).line ≤ 49153)
unfolding first_of
told-low [] h = (omega arith, omega arith)
told-low (c ∷ cs) h = go c.given refl (told-low cs h.1)
  where
    go : (t : Bool) → c.given ≡ t → ((first_of cs).number ≤ 15) × ((first_of cs).line ≤ 49153) → ((first_of (c ∷ cs)).number ≤ 15) × ((first_of (c ∷ cs)).line ≤ 49153)
    go true e k = subst (λ (r : Refusal). (r.number ≤ 15) × (r.line ≤ 49153)) (sym (first-given c cs e)) h.0
    go false e k = subst (λ (r : Refusal). (r.number ≤ 15) × (r.line ≤ 49153)) (sym (first-passed c cs e)) k

pub first-low : (cs : List Check) → AllLow cs → (first_of cs).field ≤ 14 → Low (first_of cs)
first-low cs h k = let w = told-low cs h in (w.0, w.1, k)

-- ---- how many lines there are

length-drop_last_lem : (ps : List (List ℕ)) → length (drop_last ps) ≡ length ps - 1
length-drop_last_lem [] = refl
length-drop_last_lem (p ∷ []) = refl
length-drop_last_lem (p ∷ (q ∷ ps)) = omega (arith, length-drop_last_lem (q ∷ ps))

pub lines-le : (text : List ℕ) → length (drop 1 (lines text)) ≤ length text - 1
unfolding lines
lines-le text = omega (arith, length-drop 1 (drop_last (split 10 text)), length-drop_last_lem (split 10 text), split-many 10 text, many-le 10 text)

-- ---- the opening

pub opening-low : (header text : List ℕ) → length text ≤ 49152 → Low (opening_of header text)
unfolding opening_of
opening-low header text h =
    first-low (opening_checks header text) ((omega arith, omega arith), ((omega arith, omega (arith, many-le 10 text)), ((omega arith, omega arith), tt)))
    (first-fields 14 (opening_checks header text) (omega arith, (omega arith, (omega arith, tt))))
