-- What is told of a field that declares a name: how the line is refused for it, and which name it is.
use Rattle.std.specs.Prelude.{ℕ, ◌≡◌, Bool, not, List, [], ◌∷◌, Result, IfOk}
use Rattle.text.specs.declared.Name.{Name}
use Rattle.text.specs.Name.{name_rule, name_of_lem}
use Rattle.papers.specs.declared.refused.Refused.{Refused}
use Rattle.papers.specs.refused.Refused.{refusal_of}
use Rattle.papers.specs.Checks.{Check, check, field_check, first_of}

-- The checks of line k that look at the name in field x: 6 NAME, 8 TWICE and 9 FULL.
abbrev pub name_checks : ℕ → ℕ → Bool → Bool → Bool → List Check
name_checks k x bad declared full = field_check 6 k x bad ∷ field_check 8 k x declared ∷ check 9 k full ∷ []

-- Of what field x of line k says.
pub record NameTold (k x : ℕ) (part : List ℕ) (declared full : Bool) (r : Result Name Refused) : Type 0 where
  pub told : refusal_of r ≡ first_of (name_checks k x (not (name_rule part)) declared full)
  pub name : IfOk r (λ n. n ≡ name_of_lem part)
