-- What `map_err` tells of the result that it was given.
use mathlib.Core.Path.{◌≡◌, refl}
use Rattle.std.specs.Prelude.{Result, Ok, Err, MatchResult, IsErrAnd}

module _ {T E D : Type 0} (P : E → D → Type 0) where
  -- an error was made of an error
  pub err-mapped : (r : Result T E) (d : D) → MatchResult r (λ x. Err d ≡ Ok x) (λ e. IsErrAnd {T = T} (Err d) (P e)) → (e : E) × (r ≡ Err e) × P e d
  err-mapped (Ok x) d h = cc
  err-mapped (Err e) d h = (e, refl, h)

  -- a value was left as it is
  pub ok-mapped : (r : Result T E) (x : T) → MatchResult r (λ y. ◌≡◌ {A = Result T D} (Ok x) (Ok y)) (λ e. IsErrAnd {T = T} {E = D} (Ok x) (P e)) → r ≡ Ok x
  ok-mapped (Ok y) x h = cc
  ok-mapped (Err e) x h = elim h [ ]
