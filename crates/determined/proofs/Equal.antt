-- A contract that gives the result outright determines it.
use mathlib.Core.Path.{◌≡◌, sym, ◌∙◌}
use Rattle.determined.specs.Determined.{Determines}

pub equal : {A : Type 0} (x : A) → Determines (λ (r : A). r ≡ x)
equal x r s p q = p ∙ sym q
