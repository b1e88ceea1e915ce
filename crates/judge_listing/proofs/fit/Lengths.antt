-- How long the head of a judgement's listing is, and the listing of a fit mapping.
use mathlib.Core.Path.{◌≡◌, refl}
use mathlib.Core.List.{List}
use Prim.Native.Nat.{ℕ, ◌+◌}
use native.Mathlib.Omega.{arith}
use lib.ListN.{length, length-append}
use Rattle.judge_listing.specs.fit.FitText.{verdict_head, fit_text, FitLength}

-- the header's line, and the verdict's
pub verdict-length : (v : List ℕ) → length (verdict_head v) ≡ 12 + length v
unfolding verdict_head
verdict-length v = simp length-append (omega arith)

pub fit_length : FitLength
unfolding fit_text verdict_head
fit_length = refl
