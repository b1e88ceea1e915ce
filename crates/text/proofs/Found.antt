-- What was found in a field tells what the field is.
use mathlib.Core.Path.{◌≡◌, refl, sym}
use mathlib.Core.Bool.{Bool, true, false, cond}

-- Found in a field: it is one of the words, and which.
module _ {K F : Type 0} (is : K → F) (nothing : F) (same : (k l : K) → is k ≡ is l → k ≡ l) (differ : (k : K) → is k ≡ nothing → ⊥) where
  pub found-is : (b : Bool) (k l : K) → is l ≡ cond b (is k) nothing → (b ≡ true) × (l ≡ k)
  found-is true k l e = (refl, same l k e)
  found-is false k l e = absurd (differ l e)

  pub found_nothing : (b : Bool) (k : K) → nothing ≡ cond b (is k) nothing → b ≡ false
  found_nothing true k e = absurd (differ k (sym e))
  found_nothing false k e = refl
