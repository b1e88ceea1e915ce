-- Laws of lines and of the parts between two bytes: a loop that finds the next byte b has found the next part.
use mathlib.Core.Path.{◌≡◌, refl, sym, ap, ap₂, ◌∙◌}
use mathlib.Core.Bool.{Bool, true, false, cond}
use mathlib.Core.List.{List, [], ◌∷◌, drop_last}
use mathlib.Core.Logic.{⊎_elim}
use Prim.Native.Nat.{ℕ, zero, suc, ◌+◌, ◌-◌, ◌≤◌, ◌<◌}
use native.Mathlib.Omega.{arith}
use native.Mathlib.Nat.{eq-or-lt_of_le}
use lib.ListN.{length, take, drop, get_or, length-drop, drop_of_length-le}
use lib.Seq.{take_all, take-take, drop-drop}
use lib.Dec.{eqb, ltb}
use borrow.Author.Tests.{lt-ltb, le-ltb}
use Rattle.text.specs.Parts.{part, first_index, is, place, how_many, onto, split, lines}
use Rattle.text.proofs.Parts.{first-here, first-later, first-le, length_part, place-to, place_none}

-- what is left of the front of a list
pub drop-take : {A : Type 0} (m n : ℕ) (l : List A) → m ≤ n → drop m (take n l) ≡ take (n - m) (drop m l)
drop-take zero n l h = let q : n - 0 ≡ n = omega arith in rw q
drop-take (suc m) zero l h = absurd (omega arith)
drop-take (suc m) (suc n) [] h = nil (suc n - suc m)
  where
    nil : {A : Type 0} (k : ℕ) → ◌≡◌ {A = List A} [] (take k [])
    nil zero = refl
    nil (suc k) = refl
drop-take (suc m) (suc n) (x ∷ l) h =
    let q : suc n - suc m ≡ n - m = omega arith in
    drop-take m n l (omega arith) ∙ ap (λ (k : ℕ). take k (drop m l)) (sym q)

module _ (b : ℕ) where
  -- one part more than there are bytes b
  pub split-many : (l : List ℕ) → length (split b l) ≡ suc (how_many b l)
  unfolding split how_many
  split-many [] = refl
  split-many (x ∷ l) = go (eqb x b) refl (split-many l)
    where
      onto-many : (ps : List (List ℕ)) (n : ℕ) → length ps ≡ suc n → length (onto x ps) ≡ suc n
      onto-many [] n e = absurd (omega arith)
      onto-many (p ∷ ps) n e = e

      go : (t : Bool) → eqb x b ≡ t → length (split b l) ≡ suc (how_many b l)
          → length (cond (eqb x b) ([] ∷ split b l) (onto x (split b l))) ≡ suc (cond (eqb x b) (suc (how_many b l)) (how_many b l))
      go true e h = rw e (ap suc h)
      go false e h = rw e (onto-many (split b l) (how_many b l) h)

  -- the first b ends the first part
  split_at : (l : List ℕ) → first_index (is b) l < length l → split b l ≡ take (first_index (is b) l) l ∷ split b (drop (suc (first_index (is b) l)) l)
  unfolding split first_index
  split_at [] h = absurd (omega arith)
  split_at (x ∷ l) h = go (eqb x b) refl (λ g. split_at l g)
    where
      go : (t : Bool) → eqb x b ≡ t
          → (first_index (is b) l < length l → split b l ≡ take (first_index (is b) l) l ∷ split b (drop (suc (first_index (is b) l)) l))
          → split b (x ∷ l) ≡ take (first_index (is b) (x ∷ l)) (x ∷ l) ∷ split b (drop (suc (first_index (is b) (x ∷ l))) (x ∷ l))
      go true e f = rw e
      go false e f = rw e (ap (onto x) (f (omega (arith, first-later (is b) x l e))))

  -- with no b there is one part
  split_one : (l : List ℕ) → first_index (is b) l ≡ length l → split b l ≡ l ∷ []
  unfolding split first_index
  split_one [] h = refl
  split_one (x ∷ l) h = go (eqb x b) refl (λ g. split_one l g)
    where
      go : (t : Bool) → eqb x b ≡ t → (first_index (is b) l ≡ length l → split b l ≡ l ∷ []) → split b (x ∷ l) ≡ (x ∷ l) ∷ []
      go true e f = absurd (omega (arith, first-here (is b) x l e))
      go false e f = rw e (ap (onto x) (f (omega (arith, first-later (is b) x l e))))

  -- the parts that follow one that ends at e
  unfoldable pub after : List ℕ → ℕ → ℕ → List (List ℕ)
  after text e t = cond (ltb e t) (split b (part text (e + 1) t)) []

  pub after_none : (text : List ℕ) (e t : ℕ) → t ≤ e → after text e t ≡ []
  unfolding after
  after_none text e t h = rw (le-ltb e t h)

  pub after-some : (text : List ℕ) (e t : ℕ) → e < t → after text e t ≡ split b (part text (e + 1) t)
  unfolding after
  after-some text e t h = rw (lt-ltb e t h)

  -- the first part of a part of the text, and what follows
  pub split-part : (text : List ℕ) (a t : ℕ) → a ≤ t → t ≤ length text
      → split b (part text a t) ≡ part text a (place b text a t) ∷ after text (place b text a t) t
  unfolding place
  split-part text a t h k = ⊎_elim none found (eq-or-lt_of_le (first-le (is b) l))
    where
      l : List ℕ
      l = part text a t

      i : ℕ
      i = first_index (is b) l

      found : i < length l → split b l ≡ part text a (a + i) ∷ after text (a + i) t
      found g =
          let n = length_part text a t k in
          let q : a + i - a ≡ i = omega arith in
          let r : t - a - suc i ≡ t - (a + i + 1) = omega arith in
          let s : a + suc i ≡ a + i + 1 = omega arith in
          let front : take i l ≡ part text a (a + i) =
          take-take i (t - a) (drop a text) (omega arith) ∙ ap (λ (j : ℕ). take j (drop a text)) (sym q) in
          let back : drop (suc i) l ≡ part text (a + i + 1) t =
          drop-take (suc i) (t - a) (drop a text) (omega arith) ∙ ap₂ take r (drop-drop (suc i) a text ∙ ap (λ (j : ℕ). drop j text) s) in
          split_at l g ∙ ap₂ (λ (p : List ℕ) (q : List ℕ). p ∷ split b q) front back
          ∙ ap (λ (ps : List (List ℕ)). part text a (a + i) ∷ ps) (sym (after-some text (a + i) t (omega arith)))

      none : i ≡ length l → split b l ≡ part text a (a + i) ∷ after text (a + i) t
      none g =
          let n = length_part text a t k in
          let q : t ≡ a + i = omega arith in
          split_one l g ∙ ap₂ (λ (p : List ℕ) (ps : List (List ℕ)). p ∷ ps) (ap (part text a) q) (sym (after_none text (a + i) t (omega arith)))

-- ---- lines

pub lines_none : lines [] ≡ []
unfolding lines split
lines_none = refl

pub front-more : {A : Type 0} (x : A) (l : List A) → 0 < length l → drop_last (x ∷ l) ≡ x ∷ drop_last l
front-more x [] h = absurd (omega arith)
front-more x (y ∷ l) h = refl

-- nothing is left past the end
pub lines_end : (text : List ℕ) (at : ℕ) → length text ≤ at → lines (drop at text) ≡ []
lines_end text at h = ap lines (drop_of_length-le text {i = at} h) ∙ lines_none

module _ (text : List ℕ) (at : ℕ) where
  -- the next line ends at the next byte 10
  pub lines_next : at ≤ length text → place 10 text at (length text) < length text
      → lines (drop at text) ≡ part text at (place 10 text at (length text)) ∷ lines (drop (place 10 text at (length text) + 1) text)
  unfolding lines
  lines_next h k =
      let n = length text in
      let e = place 10 text at n in
      let whole : (a : ℕ) → part text a n ≡ drop a text = λ a. take_all (n - a) (drop a text) (omega (arith, length-drop a text)) in
      ap (λ (l : List ℕ). drop_last (split 10 l)) (sym (whole at))
      ∙ ap drop_last (split-part 10 text at n h (omega arith) ∙ ap (λ (ps : List (List ℕ)). part text at e ∷ ps) (after-some 10 text e n k))
      ∙ front-more (part text at e) (split 10 (part text (e + 1) n)) (omega (arith, split-many 10 (part text (e + 1) n)))
      ∙ ap (λ (l : List ℕ). part text at e ∷ drop_last (split 10 l)) (whole (e + 1))

  -- in a text that ends with byte 10 there is a next one
  pub line-ends : at < length text → get_or text (length text - 1) 0 ≡ 10 → place 10 text at (length text) < length text
  line-ends h q =
      let n = length text in
      ⊎_elim (λ e. absurd (place_none 10 text at n (omega arith) (omega arith) (n - 1) (omega arith) (omega arith) q)) (λ g. g)
      (eq-or-lt_of_le (place-to 10 text at n (omega arith) (omega arith)))
