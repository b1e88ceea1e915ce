-- Loops that gather, element by element, what some element of a list has.
use Prim.Native.Nat.{ℕ, zero, suc, ◌+◌, ◌≤◌, ◌<◌}
use mathlib.Core.Path.{◌≡◌, subst}
use mathlib.Core.Logic.{◌⊎◌, inl, inr, ⊎_elim, ◌↔◌}
use mathlib.Core.List.{List, [], ◌∷◌, ◌++◌, map}
use native.Mathlib.Numerals.{add-one}
use native.Mathlib.Omega.{arith}
use lib.ListN.{length, take, get_or}
use lib.Seq.{take-suc}
use Rattle.std.proofs.lemmas.List.{take_all}
use Rattle.rules.specs.Lists.{◌∈◌, Some}
use Rattle.tables.specs.Cells.{Each}

pub ↔_trans : {A B C : Type 0} → A ↔ B → B ↔ C → A ↔ C
↔_trans f g = (λ a. g.0 (f.0 a), λ c. f.1 (g.1 c))

pub ↔_sym : {A B : Type 0} → A ↔ B → B ↔ A
↔_sym f = (f.1, f.0)

module _ {A B : Type 0} (f : A → B) (P : B → Type 0) where
  some-snoc : (l : List A) (x : A) → Some P (map f (l ++ (x ∷ []))) ↔ (Some P (map f l) ⊎ P (f x))
  some-snoc [] x = (⊎_elim (λ p. inr p) (λ q. absurd q), ⊎_elim (λ q. absurd q) (λ p. inl p))
  some-snoc (y ∷ l) x =
      let r = some-snoc l x in (
        ⊎_elim (λ p. inl (inl p)) (λ q. ⊎_elim (λ s. inl (inr s)) (λ p. inr p) (r.0 q)),
        ⊎_elim (⊎_elim (λ p. inl p) (λ s. inr (r.1 (inl s)))) (λ p. inr (r.1 (inr p))),
      )

  -- one element more
  pub some_more : (l : List A) (i : ℕ) (z : A) → i < length l → Some P (map f (take (i + 1) l)) ↔ (Some P (map f (take i l)) ⊎ P (f (get_or l i z)))
  some_more l i z h = rw (add-one i, take-suc l i z h) (some-snoc (take i l) (get_or l i z))

  -- where a loop that gathers begins, a turn, and where it is left
  pub gather_none : (X : Type 0) (l : List A) → ¬ X → X ↔ Some P (map f (take 0 l))
  gather_none X [] g = (λ x. absurd (g x), λ s. absurd s)
  gather_none X (y ∷ l) g = (λ x. absurd (g x), λ s. absurd s)

  pub gather-more : (X Y : Type 0) (l : List A) (i : ℕ) (z : A) → i < length l → Y ↔ (X ⊎ P (f (get_or l i z))) → X ↔ Some P (map f (take i l)) → Y ↔ Some P (map f (take (i + 1) l))
  gather-more X Y l i z h e g =
      let r = some_more l i z h in (
        λ y. r.1 (⊎_elim (λ x. inl (g.0 x)) (λ p. inr p) (e.0 y)),
        λ s. e.1 (⊎_elim (λ t. inl (g.1 t)) (λ p. inr p) (r.0 s)),
      )

  pub gather-all : (X : Type 0) (l : List A) (i : ℕ) → length l ≤ i → X ↔ Some P (map f (take i l)) → X ↔ Some P (map f l)
  gather-all X l i h g = subst (λ (m : List A). X ↔ Some P (map f m)) (take_all i l h) g

-- a number is in a list where some element is that number
pub in_some : (x : ℕ) (l : List ℕ) → (x ∈ l) ↔ Some (λ y. x ≡ y) l
in_some x [] = (λ h. h, λ h. h)
in_some x (y ∷ l) = let r = in_some x l in (⊎_elim (λ e. inl e) (λ h. inr (r.0 h)), ⊎_elim (λ e. inl e) (λ h. inr (r.1 h)))

-- ---- each element

module _ {A : Type 0} (P : A → Type 0) where
  pub each_at : (l : List A) (i : ℕ) (z : A) → Each P l → i < length l → P (get_or l i z)
  unfolding Each
  each_at [] i z a h = absurd (omega arith)
  each_at (x ∷ l) zero z a h = a.0
  each_at (x ∷ l) (suc i) z a h = each_at l i z a.1 (omega arith)

  pub each_part : (l : List A) (n : ℕ) → Each P l → Each P (take n l)
  unfolding Each
  each_part l zero a = tt
  each_part [] (suc n) a = tt
  each_part (x ∷ l) (suc n) a = (a.0, each_part l n a.1)

  pub each_snoc : (l : List A) (x : A) → Each P l → P x → Each P (l ++ (x ∷ []))
  unfolding Each
  each_snoc [] x a p = (p, tt)
  each_snoc (y ∷ l) x a p = (a.0, each_snoc l x a.1 p)

pub each_map : {A : Type 0} (P Q : A → Type 0) → ((x : A) → P x → Q x) → (l : List A) → Each P l → Each Q l
unfolding Each
each_map P Q f [] a = a
each_map P Q f (x ∷ l) a = (f x a.0, each_map P Q f l a.1)
