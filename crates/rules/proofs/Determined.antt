-- Two results that the contract of a function of this crate allows are equal. (What the rules determine: `determined` in Promises.)
use Prim.Native.Nat.{ℕ}
use mathlib.Core.Path.{◌≡◌}
use Rattle.determined.specs.Determined.{Determines}
use Rattle.determined.proofs.Equal.{equal}

-- Message::index and State::index: the result is the number itself.
pub index : (number : ℕ) → Determines (λ (r : ℕ). r ≡ number)
index number = equal _
