-- Two tests that both hold, and a test that cannot.
use Prim.Native.Nat.{ℕ}
use mathlib.Core.Path.{◌≡◌, refl}
use mathlib.Core.Bool.{Bool, true, false, ◌&&◌}
use native.Mathlib.Omega.{arith}

pub not-both : (a : Bool) → a ≡ false → a ≡ true → ⊥
not-both a e q = let z : ◌≡◌ {A = ℕ} 0 1 = cc in omega arith

pub and_left : (a b : Bool) → (a && b) ≡ true → a ≡ true
and_left true b e = refl
and_left false b e = e

pub and_right : (a b : Bool) → (a && b) ≡ true → b ≡ true
and_right true b e = e
and_right false b e = absurd (not-both false refl e)
