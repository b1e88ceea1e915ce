-- Laws of looking up: one for every kind of row.
use mathlib.Core.Path.{◌≡◌, refl, sym, ap, ◌∙◌}
use mathlib.Core.Bool.{Bool, true, false, not, cond}
use mathlib.Core.List.{List, []}
use Prim.Native.Nat.{ℕ, suc, ◌+◌, ◌≤◌, ◌<◌}
use native.Mathlib.Omega.{arith}
use lib.ListN.{length, take, get_or, length-take}
use lib.Seq.{get_or-take}
use lib.Dec.{ltb}
use borrow.Author.Tests.{lt-ltb, le-ltb, ltb-true, ltb-false}
use Rattle.text.specs.Parts.{first_index}
use Rattle.text.proofs.Parts.{first-before, first_passes}
use Rattle.std.specs.Prelude.{Option, Some, None, ◌∷◌}
use Rattle.std.specs.List.{position_or_len}
use Rattle.std.proofs.lemmas.Option.{none-some, same_Some}
use Rattle.tables.specs.names.Names.{found}

module _ {A : Type 0} (p : A → Bool) (rows : List A) (n : ℕ) (d : A) where
  -- Row i is the first of the first n that passes.
  pub record First (i : ℕ) : Type 0 where
    pub within : i < n
    pub passes : p (get_or rows i d) ≡ true
    pub before : (j : ℕ) → j < i → p (get_or rows j d) ≡ false

  module _ (long : n ≤ length rows) where
    all : length (take n rows) ≡ n
    all = omega (arith, length-take n rows)

    -- what was found is the first that passes
    pub first_found : first_index p (take n rows) < n → First (first_index p (take n rows))
    first_found h =
        let i = first_index p (take n rows) in
        record {
          within = h;
          passes = ap p (sym (get_or-take n rows i d h)) ∙ first_passes p (take n rows) d (omega (arith, all));
          before = λ j g. ap p (sym (get_or-take n rows j d (omega arith))) ∙ first-before p (take n rows) d j g;
        }

-- ---- what an answer tells

module _ {A : Type 0} (at : ℕ → A) (i n : ℕ) where
  pub found_at : (x : A) → found at i n ≡ Some x → (i < n) × (x ≡ at i)
  found_at x e = go (ltb i n) refl
    where
      go : (t : Bool) → ltb i n ≡ t → (i < n) × (x ≡ at i)
      go true q = (ltb-true i n q, same_Some x (at i) (sym e ∙ ap (λ (t : Bool). cond t (Some (at i)) None) q))
      go false q = absurd (none-some x (sym (ap (λ (t : Bool). cond t (Some (at i)) None) q) ∙ e))

  pub found_nothing : found at i n ≡ None → n ≤ i
  found_nothing e = go (ltb i n) refl
    where
      go : (t : Bool) → ltb i n ≡ t → n ≤ i
      go true q = absurd (none-some (at i) (sym e ∙ ap (λ (t : Bool). cond t (Some (at i)) None) q))
      go false q = ltb-false i n q

-- ---- a search through all the rows, by the library's `position`

first-position : {A : Type 0} (p : A → Bool) (rows : List A) → position_or_len p rows ≡ first_index p rows
unfolding first_index
first-position p [] = refl
first-position p (x ∷ rows) = rw (first-position p rows) (turned (p x) (first_index p rows))
  where
    turned : (b : Bool) (n : ℕ) → cond (not b) (1 + n) 0 ≡ cond b 0 (suc n)
    turned true n = refl
    turned false n = omega arith

abbrev pub found_place : ℕ → ℕ → Option ℕ
found_place = found (λ i. i)

module _ {A B : Type 0} (p : A → Bool) (rows : List A) (at : ℕ → B) (r : Option ℕ) (e : r ≡ found_place (position_or_len p rows) (length rows)) where
  same : r ≡ found (λ i. i) (first_index p rows) (length rows)
  same = e ∙ ap (λ (i : ℕ). found (λ j. j) i (length rows)) (first-position p rows)

  -- it found a row
  pub found_here : (i : ℕ) → r ≡ Some i → Some (at i) ≡ found at (first_index p rows) (length rows)
  found_here i q =
      let w = found_at (λ j. j) (first_index p rows) (length rows) i (sym same ∙ q) in
      rw (lt-ltb (first_index p rows) (length rows) w.0, w.1)

  -- it found none
  pub found_none : r ≡ None → None ≡ found at (first_index p rows) (length rows)
  found_none q = rw (le-ltb (first_index p rows) (length rows) (found_nothing (λ j. j) (first_index p rows) (length rows) (sym same ∙ q)))
