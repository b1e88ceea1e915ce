-- A line is its fields with tabs between them, and a text is its lines, each ended by byte 10.
use Prim.Native.Nat.{ℕ, suc, ◌-◌, ◌<◌}
use mathlib.Core.Path.{◌≡◌, refl, ap, ◌∙◌}
use mathlib.Core.Bool.{Bool, true, false, cond}
use mathlib.Core.List.{List, [], ◌∷◌, map, drop_last}
use native.Mathlib.Omega.{arith}
use lib.ListN.{length, get_or}
use lib.Dec.{eqb}
use borrow.Author.Tests.{eqb-true}
use Rattle.text.specs.Parts.{onto, split, lines}
use Rattle.text.proofs.Lines.{split-many}
use Rattle.papers.proofs.Joined.{Ends}
use Rattle.text.specs.Line.{Line}
use Rattle.reading_laws.specs.protocols.Written.{tabs, tabbed, ended}

-- ---- fields

-- a tab in front of all fields
tabs-front : (f : Line) → 0 < length f → tabs f ≡ 9 ∷ tabbed f
unfolding tabs tabbed
tabs-front [] h = absurd (omega arith)
tabs-front (x ∷ f) h = refl

tabbed-onto : (x : ℕ) (f : Line) → tabbed (onto x f) ≡ x ∷ tabbed f
unfolding tabs tabbed
tabbed-onto x [] = refl
tabbed-onto x (y ∷ f) = refl

pub tabbed-split : (l : List ℕ) → tabbed (split 9 l) ≡ l
unfolding split tabs tabbed
tabbed-split [] = refl
tabbed-split (x ∷ l) = go (eqb x 9) refl (tabbed-split l)
  where
    go : (b : Bool) → eqb x 9 ≡ b → tabbed (split 9 l) ≡ l → tabbed (cond (eqb x 9) ([] ∷ split 9 l) (onto x (split 9 l))) ≡ x ∷ l
    go true e h =
        ap (λ (b : Bool). tabbed (cond b ([] ∷ split 9 l) (onto x (split 9 l)))) e
        ∙ tabs-front (split 9 l) (omega (arith, split-many 9 l)) ∙ (let q = eqb-true x 9 e in cc)
    go false e h =
        ap (λ (b : Bool). tabbed (cond b ([] ∷ split 9 l) (onto x (split 9 l)))) e ∙ tabbed-onto x (split 9 l) ∙ ap (λ (r : List ℕ). x ∷ r) h

pub tabbed-fields : (ls : List (List ℕ)) → map tabbed (map (split 9) ls) ≡ ls
tabbed-fields [] = refl
tabbed-fields (l ∷ ls) = let p = tabbed-split l in let q = tabbed-fields ls in cc

-- ---- lines

-- One byte in front of a text whose lines are known: byte 10 ends an empty line, another byte begins the first line.
module _ (x y : ℕ) (l : List ℕ) where
  more : (ps : List (List ℕ)) → ended (drop_last ps) ≡ y ∷ l → (b : Bool) → eqb x 10 ≡ b → ended (drop_last (cond b ([] ∷ ps) (onto x ps))) ≡ x ∷ (y ∷ l)
  unfolding ended
  more [] h b e = absurd (let z : ◌≡◌ {A = ℕ} 0 1 = cc in omega arith)
  more (p ∷ []) h b e = absurd (let z : ◌≡◌ {A = ℕ} 0 1 = cc in omega arith)
  more (p ∷ (q ∷ ps)) h true e = let z = eqb-true x 10 e in cc
  more (p ∷ (q ∷ ps)) h false e = ap (λ (r : List ℕ). x ∷ r) h

pub ended-lines : (l : List ℕ) → Ends l → ended (lines l) ≡ l
unfolding ended lines split
ended-lines [] e = refl
ended-lines (x ∷ []) e = let z : x ≡ 10 = e in rw z refl
ended-lines (x ∷ (y ∷ l)) e = more x y l (split 10 (y ∷ l)) (ended-lines (y ∷ l) (ends-tail e)) (eqb x 10) refl
  where
    ends-tail : Ends (x ∷ (y ∷ l)) → Ends (y ∷ l)
    ends-tail k =
        let q : suc (suc (length l) - 1) ≡ suc (suc (length l)) - 1 = omega arith in
        ap (λ (i : ℕ). get_or (x ∷ (y ∷ l)) i 10) q ∙ k
