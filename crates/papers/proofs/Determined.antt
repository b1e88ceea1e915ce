-- Each contract of this crate leaves one answer.
use mathlib.Core.Path.{◌≡◌, refl, sym, ◌∙◌}
use mathlib.Core.Bool.{Bool}
use mathlib.Core.List.{List}
use Prim.Native.Nat.{ℕ}
use Rattle.std.specs.Prelude.{Result, ⊤}
use Rattle.determined.specs.Determined.{Determines}
use Rattle.determined.proofs.Equal.{equal}
use Rattle.text.specs.Parts.{split}
use Rattle.text.specs.Line.{field, says}
use Rattle.papers.specs.declared.Refusal.{Refusal}
use Rattle.papers.specs.declared.refused.Reason.{Reason}
use Rattle.papers.specs.declared.refused.Refused.{Refused}
use Rattle.papers.specs.Checks.{field_refusal}
use Rattle.papers.specs.Opening.{opening_of}
use Rattle.papers.specs.refused.Refused.{number_of, told_refusal, refusal_of}
use Rattle.papers.proofs.Refusals.{told-injective, refusal-injective}

pub opening-determined : (header text : List ℕ) → Determines (λ (r : Result ⊤ Refused). refusal_of r ≡ opening_of header text)
opening-determined header text r s p q = refusal-injective r s (p ∙ sym q) (λ x y e f. refl)

-- ---- refusals

pub number-determined : (w : Reason) → Determines (λ (r : ℕ). r ≡ number_of w)
number-determined w = equal _

-- of a whole line, where the field is 0, and of a field
pub refused-determined : (w : Reason) (line field : ℕ) → Determines (λ (r : Refused). told_refusal r ≡ field_refusal (number_of w) line field)
refused-determined w line field r s p q = told-injective r s (p ∙ sym q)

pub refusal-determined : (e : Refused) → Determines (λ (r : Refusal). r ≡ told_refusal e)
refusal-determined e = equal _

-- ---- the fields of a line

module _ (line : List ℕ) (i : ℕ) where
  pub field-determined : Determines (λ (r : List ℕ). r ≡ field (split 9 line) i)
  field-determined = equal _

  pub says-determined : (word : List ℕ) → Determines (λ (r : Bool). r ≡ says (split 9 line) i word)
  says-determined word = equal _
