-- Chains of steps: one after the other, and under a change of the relation.
use Prim.Native.Nat.{ℕ}
use mathlib.Core.Path.{◌≡◌}
use mathlib.Core.Logic.{◌⊎◌, inl, inr}
use mathlib.Core.List.{List, [], ◌∷◌, ◌++◌}
use Rattle.rules.specs.Walks.{Rel, Chain, Plus}

-- zero or more steps
abbrev pub Star : Rel → Rel
Star R a b = (a ≡ b) ⊎ Plus R a b

module _ {R S : Rel} (f : (a b : ℕ) → R a b → S a b) where
  pub chain-map : (a : ℕ) (l : List ℕ) → Chain R a l → Chain S a l
  chain-map a [] c = tt
  chain-map a (b ∷ l) c = (f a b c.0, chain-map b l c.1)

  pub plus-map : (a b : ℕ) → Plus R a b → Plus S a b
  plus-map a b w = (w.0, chain-map a (w.0 ++ b ∷ []) w.1)

module _ {R : Rel} where
  pub plus_one : (a b : ℕ) → R a b → Plus R a b
  plus_one a b r = ([], (r, tt))

  pub plus-cons : (a b c : ℕ) → R a b → Plus R b c → Plus R a c
  plus-cons a b c r w = (b ∷ w.0, (r, w.1))

  trans-go : (a b c : ℕ) (l : List ℕ) → Chain R a (l ++ b ∷ []) → Plus R b c → Plus R a c
  trans-go a b c [] w v = plus-cons a b c w.0 v
  trans-go a b c (x ∷ l) w v = plus-cons a x c w.0 (trans-go x b c l w.1 v)

  pub plus-trans : (a b c : ℕ) → Plus R a b → Plus R b c → Plus R a c
  plus-trans a b c w v = trans-go a b c w.0 w.1 v

  pub star-plus : (a b c : ℕ) → Star R a b → Plus R b c → Plus R a c
  star-plus a b c (inl e) v = rw e v
  star-plus a b c (inr w) v = plus-trans a b c w v

  pub plus-star : (a b c : ℕ) → Plus R a b → Star R b c → Plus R a c
  plus-star a b c w (inl e) = rw (← e) w
  plus-star a b c w (inr v) = plus-trans a b c w v

  pub star-trans : (a b c : ℕ) → Star R a b → Star R b c → Star R a c
  star-trans a b c (inl e) v = rw e v
  star-trans a b c (inr w) v = inr (plus-star a b c w v)
