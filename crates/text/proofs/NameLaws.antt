-- Laws of names.
use mathlib.Core.Path.{◌≡◌, refl, sym, ap, ap₂, ◌∙◌}
use mathlib.Core.Bool.{Bool, true, false, ◌&&◌}
use mathlib.Core.List.{List, [], ◌∷◌, ◌++◌}
use Prim.Native.Nat.{ℕ, zero, suc, ◌-◌, ◌≤◌}
use native.Mathlib.Omega.{arith}
use lib.ListN.{length, drop, replicate}
use lib.Seq.{take_at}
use lib.Dec.{leb}
use borrow.Author.Tests.{leb-true, le-leb, ne_eqb}
use Rattle.std.specs.List.{list_all}
use Rattle.text.specs.declared.Name.{Name}
use Rattle.text.specs.Written.{Wrote}
use Rattle.text.specs.Name.{among, is_name_byte, every, name_rule, name_text, name_of_lem}

-- ---- the name rule

pub among_in : (a b x : ℕ) → a ≤ x → x ≤ b → among a b x ≡ true
among_in a b x h k = ap₂ (λ (s t : Bool). s && t) (le-leb a x h) (le-leb x b k)

pub among-out : (a b x : ℕ) → (a ≤ x → x ≤ b → ⊥) → among a b x ≡ false
among-out a b x h = go (leb a x) (leb x b) refl refl
  where
    go : (s t : Bool) → leb a x ≡ s → leb x b ≡ t → (leb a x && leb x b) ≡ false
    go true true p q = absurd (h (leb-true a x p) (leb-true x b q))
    go true false p q = rw (p, q)
    go false t p q = rw p

-- a byte of none of the kinds
pub no-name-byte : (x : ℕ) → (97 ≤ x → x ≤ 122 → ⊥) → (65 ≤ x → x ≤ 90 → ⊥) → (48 ≤ x → x ≤ 57 → ⊥)
    → (x ≡ 45 → ⊥) → (x ≡ 43 → ⊥) → (x ≡ 95 → ⊥) → (x ≡ 46 → ⊥) → is_name_byte x ≡ false
unfolding is_name_byte
no-name-byte x a b c d e f g = rw (among-out 97 122 x a, among-out 65 90 x b, among-out 48 57 x c, ne_eqb x 45 d, ne_eqb x 43 e, ne_eqb x 95 f, ne_eqb x 46 g)

-- what `all` over the bytes answers
pub every-all : (p : ℕ → Bool) (l : List ℕ) → list_all p l ≡ every p l
unfolding every
every-all p [] = refl
every-all p (x ∷ l) = ap (λ (t : Bool). p x && t) (every-all p l)

pub rule-short : (l : List ℕ) → (1 ≤ length l → length l ≤ 24 → ⊥) → name_rule l ≡ false
unfolding name_rule
rule-short l h = ap (λ (t : Bool). t && every is_name_byte l) (among-out 1 24 (length l) h)

pub rule-bytes : (l : List ℕ) → 1 ≤ length l → length l ≤ 24 → name_rule l ≡ every is_name_byte l
unfolding name_rule
rule-bytes l h k = ap (λ (t : Bool). t && every is_name_byte l) (among_in 1 24 (length l) h k)

-- a name that keeps the rule is not too long to be kept
pub rule-length : (l : List ℕ) → name_rule l ≡ true → (1 ≤ length l) × (length l ≤ 24)
unfolding name_rule
rule-length l e = go (leb 1 (length l)) (leb (length l) 24) refl refl
  where
    go : (s t : Bool) → leb 1 (length l) ≡ s → leb (length l) 24 ≡ t → (1 ≤ length l) × (length l ≤ 24)
    go true true p q = (leb-true 1 (length l) p, leb-true (length l) 24 q)
    go true false p q = absurd (let z : ◌≡◌ {A = Bool} false true = sym (rw (p, q)) ∙ e in let k : ◌≡◌ {A = ℕ} 0 1 = cc in omega arith)
    go false t p q = absurd (let z : ◌≡◌ {A = Bool} false true = sym (rw p) ∙ e in let k : ◌≡◌ {A = ℕ} 0 1 = cc in omega arith)

-- ---- names as they are kept

pub drop-replicate : (k n x : ℕ) → drop k (replicate n x) ≡ replicate (n - k) x
drop-replicate zero n x = let q : n - 0 ≡ n = omega arith in rw q
drop-replicate (suc k) zero x = let q : 0 - suc k ≡ 0 = omega arith in rw q
drop-replicate (suc k) (suc n) x = let q : suc n - suc k ≡ n - k = omega arith in rw q (drop-replicate k n x)

-- a text put into cleared bytes makes the name
pub name-put : (l new : List ℕ) (n : ℕ) → Wrote l (replicate 24 0) new n → ◌≡◌ {A = Name} (record { bytes = new; length = n }) (name_of_lem l)
unfolding name_of_lem
name-put l new n w = same (w.bytes ∙ ap (λ (r : List ℕ). l ++ r) (drop-replicate (length l) 24 0)) w.count
  where
    same : {b b' : List ℕ} {m m' : ℕ} → b ≡ b' → m ≡ m' → ◌≡◌ {A = Name} (record { bytes = b; length = m }) (record { bytes = b'; length = m' })
    same p q = cc

-- the bytes of the name are those that it was made of
pub name-text : (l : List ℕ) → name_text (name_of_lem l) ≡ l
unfolding name_of_lem
name-text l = take_at l (replicate (24 - length l) 0) (length l) refl
