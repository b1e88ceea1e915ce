-- What each contract allows is one answer: two results that meet it are equal, and so is every lent byte.
use mathlib.Core.Path.{◌≡◌}
use mathlib.Core.Bool.{Bool}
use mathlib.Core.List.{List, []}
use Prim.Native.Nat.{ℕ}
use Rattle.determined.specs.Determined.{Determines, DeterminesLent}
use Rattle.determined.proofs.Equal.{equal}
use Rattle.text.specs.Parts.{is_same_text, place, how_many}
use Rattle.text.specs.Written.{Wrote, Pasted}
use Rattle.text.specs.declared.Fields.{Fields}
use Rattle.text.specs.Fields.{fields_of}
use Rattle.text.specs.Name.{name_rule, name_text, name_of_lem}
use lib.ListN.{length}
use Rattle.text.specs.declared.Name.{Name}

pub same-determined : (a b : List ℕ) → Determines (λ (r : Bool). r ≡ is_same_text a b)
same-determined a b = equal _

pub find-determined : (text : List ℕ) (b from to : ℕ) → Determines (λ (r : ℕ). r ≡ place b text from to)
find-determined text b from to = equal _

pub count-determined : (text : List ℕ) (b : ℕ) → Determines (λ (r : ℕ). r ≡ how_many b text)
count-determined text b = equal _

-- a text at the front, of `put`
pub wrote-determined : (text old : List ℕ) → DeterminesLent (Wrote text old)
wrote-determined text old new₁ new₂ r s v w = (equal _ r s v.count w.count, equal _ new₁ new₂ v.bytes w.bytes)

pub fields-of-determined : (text : List ℕ) (from to : ℕ) → Determines (λ (r : Fields). r ≡ fields_of text from to)
fields-of-determined text from to = equal _

pub is-name-determined : (l : List ℕ) → Determines (λ (r : Bool). r ≡ name_rule l)
is-name-determined l = equal _

pub no-name-determined : Determines (λ (r : Name). r ≡ name_of_lem [])
no-name-determined = equal _

pub name-of-determined : (l : List ℕ) → Determines (λ (r : Name). r ≡ name_of_lem l)
name-of-determined l = equal _

pub name-length-determined : (n : Name) → Determines (λ (r : ℕ). r ≡ length (name_text n))
name-length-determined n = equal _

pub named-determined : (n : Name) (l : List ℕ) → Determines (λ (r : Bool). r ≡ is_same_text (name_text n) l)
named-determined n l = equal _

-- a text at a place, `more`, `more_number` and `more_name`
pub pasted-determined : (text : List ℕ) (at : ℕ) (old : List ℕ) → DeterminesLent (Pasted text at old)
pasted-determined text at old new₁ new₂ r s v w = (equal _ r s v.count w.count, equal _ new₁ new₂ v.bytes w.bytes)
