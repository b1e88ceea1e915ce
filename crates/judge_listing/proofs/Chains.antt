-- Texts written one after another.
use mathlib.Core.List.{List, ◌++◌}
use Prim.Native.Nat.{ℕ, ◌≤◌}
use lib.ListN.{length}
use Rattle.plan_listing.proofs.Growing.{front-room}
use Rattle.text.specs.Written.{Wrote, Pasted}
use Rattle.text.proofs.Written.{then-more}

-- four texts, the first at the front
module _ (p q r s old : List ℕ) (room : length (((p ++ q) ++ r) ++ s) ≤ length old) (n₁ : List ℕ) (a : ℕ) (w₁ : Wrote p old n₁ a) (n₂ : List ℕ) (b : ℕ) (w₂ : Pasted q a n₁ n₂ b) (n₃ : List ℕ) (c : ℕ) (w₃ : Pasted r b n₂ n₃ c) where
  room₃ : length ((p ++ q) ++ r) ≤ length old
  room₃ = front-room ((p ++ q) ++ r) s old room

  two : Wrote (p ++ q) old n₂ b
  two = then-more p q old n₁ a (front-room (p ++ q) r old room₃) w₁ n₂ b w₂

  three : Wrote ((p ++ q) ++ r) old n₃ c
  three = then-more (p ++ q) r old n₂ b room₃ two n₃ c w₃

  pub all-four : (n₄ : List ℕ) (d : ℕ) → Pasted s c n₃ n₄ d → Wrote (((p ++ q) ++ r) ++ s) old n₄ d
  all-four n₄ d w₄ = then-more ((p ++ q) ++ r) s old n₃ c room three n₄ d w₄

-- five texts
module _ (p q r s t old : List ℕ) (room : length ((((p ++ q) ++ r) ++ s) ++ t) ≤ length old) (n₁ : List ℕ) (a : ℕ) (w₁ : Wrote p old n₁ a) (n₂ : List ℕ) (b : ℕ) (w₂ : Pasted q a n₁ n₂ b) (n₃ : List ℕ) (c : ℕ) (w₃ : Pasted r b n₂ n₃ c) (n₄ : List ℕ) (d : ℕ) (w₄ : Pasted s c n₃ n₄ d) where
  four : Wrote (((p ++ q) ++ r) ++ s) old n₄ d
  four = all-four p q r s old (front-room (((p ++ q) ++ r) ++ s) t old room) n₁ a w₁ n₂ b w₂ n₃ c w₃ n₄ d w₄

  all-five : (n₅ : List ℕ) (e : ℕ) → Pasted t d n₄ n₅ e → Wrote ((((p ++ q) ++ r) ++ s) ++ t) old n₅ e
  all-five n₅ e w₅ = then-more (((p ++ q) ++ r) ++ s) t old n₄ d room four n₅ e w₅

-- six texts
module _ (p q r s t u old : List ℕ) (room : length (((((p ++ q) ++ r) ++ s) ++ t) ++ u) ≤ length old) (n₁ : List ℕ) (a : ℕ) (w₁ : Wrote p old n₁ a) (n₂ : List ℕ) (b : ℕ) (w₂ : Pasted q a n₁ n₂ b) (n₃ : List ℕ) (c : ℕ) (w₃ : Pasted r b n₂ n₃ c) (n₄ : List ℕ) (d : ℕ) (w₄ : Pasted s c n₃ n₄ d) (n₅ : List ℕ) (e : ℕ) (w₅ : Pasted t d n₄ n₅ e) where
  five : Wrote ((((p ++ q) ++ r) ++ s) ++ t) old n₅ e
  five = all-five p q r s t old (front-room ((((p ++ q) ++ r) ++ s) ++ t) u old room) n₁ a w₁ n₂ b w₂ n₃ c w₃ n₄ d w₄ n₅ e w₅

  pub all-six : (n₆ : List ℕ) (f : ℕ) → Pasted u e n₅ n₆ f → Wrote (((((p ++ q) ++ r) ++ s) ++ t) ++ u) old n₆ f
  all-six n₆ f w₆ = then-more ((((p ++ q) ++ r) ++ s) ++ t) u old n₅ e room five n₆ f w₆
