-- What is told of a line's names tells whether all of them are known, and what they stand for or which field is not known.
use mathlib.Core.Path.{◌≡◌, refl}
use mathlib.Core.Bool.{Bool, true, false}
use mathlib.Core.List.{List}
use Rattle.std.specs.Prelude.{Ok, Err}
use Rattle.papers.specs.declared.refused.Field.{Field}
use Rattle.papers.specs.Fields.{Looked, first_bad_field}
use Rattle.cells.specs.Names.{known_or_field}

module _ {A : Type 0} (x : A) (names : List Looked) where
  pub ok-known : (known : Bool) (y : A) → Ok y ≡ known_or_field known x names → (known ≡ true) × (y ≡ x)
  ok-known true y e = (refl, cc)
  ok-known false y e = cc

  pub err-unknown : (known : Bool) (k : Field) → Err k ≡ known_or_field known x names → (known ≡ false) × (k ≡ record { 0 = first_bad_field names })
  err-unknown true k e = cc
  err-unknown false k e = (refl, cc)
