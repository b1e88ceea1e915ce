-- The count of a line's fields.
use Prim.Native.Nat.{ℕ, ◌<◌, ◌≤◌}
use mathlib.Core.Path.{◌≡◌, refl, sym, ◌∙◌}
use mathlib.Core.Bool.{Bool, true, false}
use mathlib.Core.List.{List}
use native.Mathlib.Omega.{arith}
use lib.ListN.{length}
use lib.Dec.{eqb, ltb}
use borrow.Author.Tests.{eq-eqb, ne_eqb, eqb-true, eqb-false, lt-ltb, le-ltb}
use Rattle.text.specs.Parts.{split}
use Rattle.papers.specs.declared.records.Record.{Record}
use Rattle.papers.proofs.Recorded.{few, counted, many}

module _ (r : Record) (n : ℕ) (h : n < 15) where
  abbrev line : List ℕ
  line = r.bytes.now

  pub count-is : r.fields.count ≡ n → eqb (length (split 9 line)) n ≡ true
  count-is e = eq-eqb (length (split 9 line)) n (counted r (omega arith) ∙ e)

  -- fifteen places are not told from more, and both are not n
  pub count-is-not : (r.fields.count ≡ n → ⊥) → eqb (length (split 9 line)) n ≡ false
  count-is-not e = ne_eqb (length (split 9 line)) n (λ q. e (back q))
    where
      back : length (split 9 line) ≡ n → r.fields.count ≡ n
      back q = go (eqb r.fields.count 15) refl
        where
          go : (b : Bool) → eqb r.fields.count 15 ≡ b → r.fields.count ≡ n
          go true g = absurd (omega (arith, many r (eqb-true r.fields.count 15 g)))
          go false g = sym (counted r (omega (arith, few r, eqb-false r.fields.count 15 g))) ∙ q

  pub count_same : eqb r.fields.count n ≡ eqb (length (split 9 line)) n
  count_same = go (eqb r.fields.count n) refl
    where
      go : (b : Bool) → eqb r.fields.count n ≡ b → eqb r.fields.count n ≡ eqb (length (split 9 line)) n
      go true q = q ∙ sym (count-is (eqb-true r.fields.count n q))
      go false q = q ∙ sym (count-is-not (eqb-false r.fields.count n q))

  -- a field that is there, and one that is not
  pub has-field : n < r.fields.count → ltb n (length (split 9 line)) ≡ true
  has-field e = lt-ltb n (length (split 9 line)) (go (eqb r.fields.count 15) refl)
    where
      go : (b : Bool) → eqb r.fields.count 15 ≡ b → n < length (split 9 line)
      go true g = omega (arith, many r (eqb-true r.fields.count 15 g))
      go false g = omega (arith, counted r (omega (arith, few r, eqb-false r.fields.count 15 g)))

  pub lacks-field : r.fields.count ≤ n → ltb n (length (split 9 line)) ≡ false
  lacks-field e = le-ltb n (length (split 9 line)) (omega (arith, counted r (omega arith)))
