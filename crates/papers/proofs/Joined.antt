-- Laws of texts that were put together: the parts between bytes b are the parts that were joined by b, where none of them holds b.
use mathlib.Core.Path.{◌≡◌, refl, sym, ap, ◌∙◌}
use mathlib.Core.Bool.{Bool, true, false, cond}
use mathlib.Core.List.{List, [], ◌∷◌, ◌++◌, drop_last}
use Prim.Native.Nat.{ℕ, suc, ◌+◌, ◌-◌, ◌≤◌, ◌<◌}
use native.Mathlib.Omega.{arith}
use lib.ListN.{length, get_or, length-append}
use lib.Dec.{eqb, ltb}
use borrow.Author.Tests.{eq-eqb, ne_eqb, ltb-true, ltb-false}
use Rattle.text.specs.Parts.{how_many, onto, split, lines}
use Rattle.text.specs.Name.{is_name_byte, every, name_rule}
use Rattle.text.proofs.Lines.{split-many, front-more}
use Rattle.text.proofs.NameLaws.{no-name-byte, rule-length, rule-bytes}

-- ---- how many bytes b there are

module _ (b : ℕ) where
  many-here : (x : ℕ) (l : List ℕ) (t : Bool) → eqb x b ≡ t → how_many b (x ∷ l) ≡ cond t (suc (how_many b l)) (how_many b l)
  unfolding how_many
  many-here x l t e = ap (λ (s : Bool). cond s (suc (how_many b l)) (how_many b l)) e

  -- another byte in front
  pub many-cons : (x : ℕ) (l : List ℕ) → (x ≡ b → ⊥) → how_many b (x ∷ l) ≡ how_many b l
  many-cons x l h = many-here x l false (ne_eqb x b h)

  pub many-append : (l m : List ℕ) → how_many b (l ++ m) ≡ how_many b l + how_many b m
  unfolding how_many
  many-append [] m = omega arith
  many-append (x ∷ l) m = go (eqb x b) refl (many-append l m)
    where
      go : (t : Bool) → eqb x b ≡ t → how_many b (l ++ m) ≡ how_many b l + how_many b m → how_many b (x ∷ (l ++ m)) ≡ how_many b (x ∷ l) + how_many b m
      go true e h = omega (arith, many-here x (l ++ m) true e, many-here x l true e)
      go false e h = omega (arith, many-here x (l ++ m) false e, many-here x l false e)

  -- ---- the parts

  pub split-none : (l : List ℕ) → how_many b l ≡ 0 → split b l ≡ l ∷ []
  unfolding split
  split-none [] h = refl
  split-none (x ∷ l) h = go (eqb x b) refl (λ g. split-none l g)
    where
      go : (t : Bool) → eqb x b ≡ t → (how_many b l ≡ 0 → split b l ≡ l ∷ []) → split b (x ∷ l) ≡ (x ∷ l) ∷ []
      go true e f = absurd (omega (arith, many-here x l true e))
      go false e f = rw e (ap (onto x) (f (sym (many-here x l false e) ∙ h)))

  pub split-join : (l m : List ℕ) → how_many b l ≡ 0 → split b (l ++ (b ∷ m)) ≡ l ∷ split b m
  unfolding split
  split-join [] m h = ap (λ (t : Bool). cond t ([] ∷ split b m) (onto b (split b m))) (eq-eqb b b refl)
  split-join (x ∷ l) m h = go (eqb x b) refl (λ g. split-join l m g)
    where
      go : (t : Bool) → eqb x b ≡ t → (how_many b l ≡ 0 → split b (l ++ (b ∷ m)) ≡ l ∷ split b m) → split b (x ∷ (l ++ (b ∷ m))) ≡ (x ∷ l) ∷ split b m
      go true e f = absurd (omega (arith, many-here x l true e))
      go false e f = rw e (ap (onto x) (f (sym (many-here x l false e) ∙ h)))

-- a line in front of a text
pub lines_join : (l m : List ℕ) → how_many 10 l ≡ 0 → lines (l ++ (10 ∷ m)) ≡ l ∷ lines m
unfolding lines
lines_join l m h = ap drop_last (split-join 10 l m h) ∙ front-more l (split 10 m) (omega (arith, split-many 10 m))

-- ---- the last byte

-- The text is empty or ends with byte 10.
abbrev pub Ends : List ℕ → Type 0
Ends l = get_or l (length l - 1) 10 ≡ 10

ends-cons : (x : ℕ) (l : List ℕ) → 0 < length l → Ends l → Ends (x ∷ l)
ends-cons x [] h e = absurd (omega arith)
ends-cons x (y ∷ l) h e =
    ap (λ (n : ℕ). get_or (x ∷ (y ∷ l)) n 10) (let q : suc (suc (length l)) - 1 ≡ suc (suc (length l) - 1) = omega arith in q) ∙ e

-- a line in front
pub ends_join : (l m : List ℕ) → Ends m → Ends (l ++ (10 ∷ m))
ends_join [] [] e = refl
ends_join [] (y ∷ m) e = ends-cons 10 (y ∷ m) (omega arith) e
ends_join (x ∷ l) m e = ends-cons x (l ++ (10 ∷ m)) (omega (arith, length-append l (10 ∷ m))) (ends_join l m e)

-- ---- names

-- a byte that a name may hold is none of the bytes that part texts
name-byte-high : (x : ℕ) → is_name_byte x ≡ true → 43 ≤ x
name-byte-high x e = go (ltb x 43) refl
  where
    go : (t : Bool) → ltb x 43 ≡ t → 43 ≤ x
    go false q = ltb-false x 43 q
    go true q =
        let h = ltb-true x 43 q in
        absurd
        (let z = no-name-byte x (λ a b. omega arith) (λ a b. omega arith) (λ a b. omega arith) (λ a. omega arith) (λ a. omega arith) (λ a. omega arith) (λ a. omega arith) in
        let k : ◌≡◌ {A = ℕ} 0 1 = cc in omega arith)

every-lacks : (b : ℕ) (l : List ℕ) → b < 43 → every is_name_byte l ≡ true → how_many b l ≡ 0
unfolding every how_many
every-lacks b [] h e = refl
every-lacks b (x ∷ l) h e = go (is_name_byte x) refl (λ q. every-lacks b l h q)
  where
    go : (t : Bool) → is_name_byte x ≡ t → (every is_name_byte l ≡ true → how_many b l ≡ 0) → how_many b (x ∷ l) ≡ 0
    go true q f =
        let k = name-byte-high x q in
        many-cons b x l (λ z. omega arith) ∙ f (sym (rw q) ∙ e)
    go false q f = absurd (let z : ◌≡◌ {A = Bool} false true = sym (rw q) ∙ e in let k : ◌≡◌ {A = ℕ} 0 1 = cc in omega arith)

-- a name that keeps the rule holds no tab and no byte 10
pub name-lacks : (b : ℕ) (l : List ℕ) → b < 43 → name_rule l ≡ true → how_many b l ≡ 0
name-lacks b l h e =
    let n = rule-length l e in
    every-lacks b l h (sym (rule-bytes l n.0 n.1) ∙ e)
