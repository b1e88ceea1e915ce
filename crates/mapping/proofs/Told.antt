-- What an answer tells of a refusal: there is one where, and only where, the answer is an Err.
use mathlib.Core.Path.{◌≡◌, sym, ap, ◌∙◌}
use mathlib.Core.Bool.{true, false}
use Prim.Native.Nat.{ℕ}
use native.Mathlib.Omega.{arith}
use Rattle.std.specs.Prelude.{Result, Ok, Err, is_ok}
use Rattle.papers.specs.declared.Refusal.{Refusal}
use Rattle.papers.specs.declared.refused.Refused.{Refused}
use Rattle.papers.specs.refused.Refused.{refusal_of}
use Rattle.papers.proofs.Refusals.{told-some}

module _ {T : Type 0} where
  pub ok_told : (r : Result T Refused) (why : Refusal) → refusal_of r ≡ why → is_ok r ≡ true → why.number ≡ 0
  ok_told (Ok a) why e q = ap (λ (x : Refusal). x.number) (sym e)
  ok_told (Err a) why e q = absurd (let z : ◌≡◌ {A = ℕ} 0 1 = cc in omega arith)

  pub err_told : (r : Result T Refused) (why : Refusal) → refusal_of r ≡ why → is_ok r ≡ false → why.number ≡ 0 → ⊥
  err_told (Ok a) why e q z = let n : ◌≡◌ {A = ℕ} 0 1 = cc in omega arith
  err_told (Err a) why e q z = told-some a (ap (λ (x : Refusal). x.number) e ∙ z)
