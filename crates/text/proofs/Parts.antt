-- Laws of parts of texts: when two are the same, where a byte stands first, and how many there are.
use mathlib.Core.Path.{◌≡◌, refl, sym, ap, ap₂, ◌∙◌, subst}
use mathlib.Core.Bool.{Bool, true, false, ◌&&◌, cond}
use mathlib.Core.List.{List, [], ◌∷◌}
use Prim.Native.Nat.{ℕ, zero, suc, ◌+◌, ◌-◌, ◌≤◌, ◌<◌}
use native.Mathlib.Omega.{arith}
use native.Mathlib.Numerals.{add-one}
use native.Mathlib.Nat.{add-zero}
use lib.ListN.{length, take, drop, get_or, length-take, length-drop, drop_of_length-le}
use lib.Seq.{drop-cons, get_or-take, get_or-drop}
use lib.Dec.{eqb}
use borrow.Author.Tests.{eqb-true, eqb-false, eq-eqb, ne_eqb}
use Rattle.std.specs.Cmp.Lexicographic.{pointwise}
use Rattle.text.specs.Parts.{part, is_same_text, first_index, is, place, how_many}

-- ---- the same text

pub same_true : (l m : List ℕ) → is_same_text l m ≡ true → l ≡ m
unfolding is_same_text
same_true [] [] e = refl
same_true [] (y ∷ m) e = absurd (let q : ◌≡◌ {A = ℕ} 0 1 = cc in omega arith)
same_true (x ∷ l) [] e = absurd (let q : ◌≡◌ {A = ℕ} 0 1 = cc in omega arith)
same_true (x ∷ l) (y ∷ m) e = go (eqb x y) refl (same_true l m)
  where
    go : (t : Bool) → eqb x y ≡ t → (is_same_text l m ≡ true → l ≡ m) → x ∷ l ≡ y ∷ m
    go true q f = ap₂ (λ (a : ℕ) (k : List ℕ). a ∷ k) (eqb-true x y q) (f (ap (λ (t : Bool). t && is_same_text l m) (sym q) ∙ e))
    go false q f = absurd (let z : ◌≡◌ {A = Bool} false true = ap (λ (t : Bool). t && is_same_text l m) (sym q) ∙ e in let k : ◌≡◌ {A = ℕ} 0 1 = cc in omega arith)

pub same_refl : (l : List ℕ) → is_same_text l l ≡ true
unfolding is_same_text
same_refl [] = refl
same_refl (x ∷ l) = ap₂ (λ (s t : Bool). s && t) (eq-eqb x x refl) (same_refl l)

pub true_same : (l m : List ℕ) → l ≡ m → is_same_text l m ≡ true
true_same l m e = subst (λ (k : List ℕ). is_same_text l k ≡ true) e (same_refl l)

-- what `==` on two texts answers
pub same-pointwise : (l m : List ℕ) → pointwise eqb l m ≡ is_same_text l m
unfolding is_same_text
same-pointwise [] [] = refl
same-pointwise [] (y ∷ m) = refl
same-pointwise (x ∷ l) [] = refl
same-pointwise (x ∷ l) (y ∷ m) = ap (λ (t : Bool). eqb x y && t) (same-pointwise l m)

-- texts that are not the same
pub same_false : (l m : List ℕ) → (l ≡ m → ⊥) → is_same_text l m ≡ false
same_false l m h = go (is_same_text l m) refl
  where
    go : (t : Bool) → is_same_text l m ≡ t → is_same_text l m ≡ false
    go true e = absurd (h (same_true l m e))
    go false e = e

-- what a list is read as past its end does not matter within it
pub get_or-within : {A : Type 0} (l : List A) (i : ℕ) (x y : A) → i < length l → get_or l i x ≡ get_or l i y
get_or-within [] i x y h = absurd (omega arith)
get_or-within (e ∷ l) zero x y h = refl
get_or-within (e ∷ l) (suc i) x y h = get_or-within l i x y (omega arith)

-- ---- the first that passes

module _ {A : Type 0} (p : A → Bool) where
  pub first-here : (x : A) (l : List A) → p x ≡ true → first_index p (x ∷ l) ≡ 0
  unfolding first_index
  first-here x l e = ap (λ (t : Bool). cond t 0 (suc (first_index p l))) e

  pub first-later : (x : A) (l : List A) → p x ≡ false → first_index p (x ∷ l) ≡ suc (first_index p l)
  unfolding first_index
  first-later x l e = ap (λ (t : Bool). cond t 0 (suc (first_index p l))) e

  pub first-le : (l : List A) → first_index p l ≤ length l
  unfolding first_index
  first-le [] = omega arith
  first-le (x ∷ l) = go (p x) refl (first-le l)
    where
      go : (t : Bool) → p x ≡ t → first_index p l ≤ length l → first_index p (x ∷ l) ≤ suc (length l)
      go true e h = omega (arith, first-here x l e)
      go false e h = omega (arith, first-later x l e)

  -- none before it passes
  pub first-before : (l : List A) (d : A) (j : ℕ) → j < first_index p l → p (get_or l j d) ≡ false
  unfolding first_index
  first-before [] d j h = absurd (omega arith)
  first-before (x ∷ l) d zero h = go (p x) refl
    where
      go : (t : Bool) → p x ≡ t → p x ≡ false
      go true e = absurd (omega (arith, first-here x l e))
      go false e = e
  first-before (x ∷ l) d (suc j) h = go (p x) refl (λ k. first-before l d j k)
    where
      go : (t : Bool) → p x ≡ t → (j < first_index p l → p (get_or l j d) ≡ false) → p (get_or l j d) ≡ false
      go true e f = absurd (omega (arith, first-here x l e))
      go false e f = f (omega (arith, first-later x l e))

  -- it passes itself
  pub first_passes : (l : List A) (d : A) → first_index p l < length l → p (get_or l (first_index p l) d) ≡ true
  unfolding first_index
  first_passes [] d h = absurd (omega arith)
  first_passes (x ∷ l) d h = go (p x) refl (first_passes l d)
    where
      go : (t : Bool) → p x ≡ t → (first_index p l < length l → p (get_or l (first_index p l) d) ≡ true) → p (get_or (x ∷ l) (first_index p (x ∷ l)) d) ≡ true
      go true e f = rw (first-here x l e) e
      go false e f = rw (first-later x l e) (f (omega (arith, first-later x l e)))

  -- the first that passes is at i
  pub first-at : (l : List A) (n i : ℕ) (d : A) → i < n → n ≤ length l → ((j : ℕ) → j < i → p (get_or l j d) ≡ false) → p (get_or l i d) ≡ true
      → first_index p (take n l) ≡ i
  unfolding first_index
  first-at [] zero i d h k f e = absurd (omega arith)
  first-at [] (suc n) i d h k f e = absurd (omega arith)
  first-at (x ∷ l) zero i d h k f e = absurd (omega arith)
  first-at (x ∷ l) (suc n) zero d h k f e = first-here x (take n l) e
  first-at (x ∷ l) (suc n) (suc i) d h k f e =
      first-later x (take n l) (f 0 (omega arith)) ∙ ap suc (first-at l n i d (omega arith) (omega arith) (λ j g. f (suc j) (omega arith)) e)

  -- none passes
  pub first-none : (l : List A) (n : ℕ) (d : A) → n ≤ length l → ((j : ℕ) → j < n → p (get_or l j d) ≡ false) → first_index p (take n l) ≡ n
  unfolding first_index
  first-none [] zero d k f = refl
  first-none [] (suc n) d k f = absurd (omega arith)
  first-none (x ∷ l) zero d k f = refl
  first-none (x ∷ l) (suc n) d k f =
      first-later x (take n l) (f 0 (omega arith)) ∙ ap suc (first-none l n d (omega arith) (λ j g. f (suc j) (omega arith)))

-- ---- the place of a byte

pub part-next : (text : List ℕ) (a e : ℕ) → a < e → e ≤ length text → part text a e ≡ get_or text a 0 ∷ part text (a + 1) e
part-next text a e h k =
    let q : e - a ≡ suc (e - (a + 1)) = omega arith in
    ap (λ (n : ℕ). take n (drop a text)) q
    ∙ ap (take (suc (e - (a + 1)))) (drop-cons text a 0 (omega arith) ∙ ap (λ (n : ℕ). get_or text a 0 ∷ drop n text) (sym (add-one a)))

pub length_part : (text : List ℕ) (a e : ℕ) → e ≤ length text → length (part text a e) ≡ e - a
length_part text a e k = simp (length-take, length-drop) (omega arith)

module _ (b : ℕ) (text : List ℕ) where
  pub place_end : (a : ℕ) → place b text a a ≡ a
  unfolding place first_index
  place_end a = let q : a - a ≡ 0 = omega arith in ap (λ (n : ℕ). a + first_index (is b) (take n (drop a text))) q ∙ add-zero a

  module _ (a e : ℕ) (h : a < e) (k : e ≤ length text) where
    pub place_here : get_or text a 0 ≡ b → place b text a e ≡ a
    unfolding place
    place_here q =
        ap (λ (l : List ℕ). a + first_index (is b) l) (part-next text a e h k)
        ∙ ap (λ (n : ℕ). a + n) (first-here (is b) (get_or text a 0) (part text (a + 1) e) (eq-eqb (get_or text a 0) b q)) ∙ add-zero a

    pub place-next : (get_or text a 0 ≡ b → ⊥) → place b text (a + 1) e ≡ place b text a e
    unfolding place
    place-next q =
        let s = ap (λ (l : List ℕ). first_index (is b) l) (part-next text a e h k)
        ∙ first-later (is b) (get_or text a 0) (part text (a + 1) e) (ne_eqb (get_or text a 0) b q) in
        omega arith

  module _ (a e : ℕ) (h : a ≤ e) (k : e ≤ length text) where
    pub place-from : a ≤ place b text a e
    unfolding place
    place-from = omega arith

    pub place-to : place b text a e ≤ e
    unfolding place
    place-to = omega (arith, first-le (is b) (part text a e), length_part text a e k)

    at_part : (j : ℕ) → a ≤ j → j < e → get_or (part text a e) (j - a) 0 ≡ get_or text j 0
    at_part j g f =
        get_or-take (e - a) (drop a text) (j - a) 0 (omega arith) ∙ get_or-drop a text (j - a) 0
        ∙ ap (λ (i : ℕ). get_or text i 0) (let q : a + (j - a) ≡ j = omega arith in q)

    -- no b before it
    pub place_none : (j : ℕ) → a ≤ j → j < place b text a e → get_or text j 0 ≡ b → ⊥
    unfolding place
    place_none j g f q =
        let r = first-before (is b) (part text a e) 0 (j - a) (omega arith) in
        eqb-false (get_or text j 0) b (ap (is b) (sym (at_part j g (omega (arith, place-to)))) ∙ r) q

-- ---- how many there are

module _ (b : ℕ) where
  -- from a place on: the byte there counts where it is b
  many-step : (text : List ℕ) (i : ℕ) → i < length text → (t : Bool) → eqb (get_or text i 0) b ≡ t
      → how_many b (drop i text) ≡ cond t (suc (how_many b (drop (i + 1) text))) (how_many b (drop (i + 1) text))
  unfolding how_many
  many-step text i h t e =
      rw add-one (ap (how_many b) (drop-cons text i 0 h)
      ∙ ap (λ (u : Bool). cond u (suc (how_many b (drop (suc i) text))) (how_many b (drop (suc i) text))) e)

  pub many-next : (text : List ℕ) (i : ℕ) → i < length text → get_or text i 0 ≡ b → how_many b (drop i text) ≡ suc (how_many b (drop (i + 1) text))
  many-next text i h e = many-step text i h true (eq-eqb (get_or text i 0) b e)

  pub many-other : (text : List ℕ) (i : ℕ) → i < length text → (get_or text i 0 ≡ b → ⊥) → how_many b (drop i text) ≡ how_many b (drop (i + 1) text)
  many-other text i h e = many-step text i h false (ne_eqb (get_or text i 0) b e)

  pub many-end : (text : List ℕ) (i : ℕ) → length text ≤ i → how_many b (drop i text) ≡ 0
  unfolding how_many
  many-end text i h = ap (how_many b) (drop_of_length-le text {i = i} h)

  pub many-le : (l : List ℕ) → how_many b l ≤ length l
  unfolding how_many
  many-le [] = omega arith
  many-le (x ∷ l) = go (eqb x b) refl (many-le l)
    where
      go : (t : Bool) → eqb x b ≡ t → how_many b l ≤ length l → cond (eqb x b) (suc (how_many b l)) (how_many b l) ≤ suc (length l)
      go true e h = rw e (omega arith)
      go false e h = rw e (omega arith)
