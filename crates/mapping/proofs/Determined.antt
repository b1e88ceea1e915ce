-- The contract of `read_mapping` leaves one answer.
use Prim.Native.Nat.{ℕ}
use mathlib.Core.Path.{◌≡◌, sym, ap, ◌∙◌}
use mathlib.Core.List.{List}
use Rattle.std.specs.Prelude.{Result, Ok, Err}
use Rattle.determined.specs.Determined.{Determines}
use Rattle.rules.specs.declared.Network.{Network}
use Rattle.papers.specs.declared.refused.Refused.{Refused}
use Rattle.papers.proofs.Refusals.{told-some, told-injective}
use Rattle.tables.specs.declared.MessageRow.{MessageRow}
use Rattle.mapping.specs.Mapped.{Mapped}
use Rattle.mapping.specs.Reading.{mapped_of, read_mapping_lem}

-- an answer is the one thing that it says of the mapping
same_answer : (r s : Result (List Network) Refused) → mapped_of r ≡ mapped_of s → r ≡ s
same_answer (Ok a) (Ok b) e = ap Ok (ap (λ (m : Mapped). m.networks) e)
same_answer (Ok a) (Err y) e = absurd (told-some y (ap (λ (m : Mapped). m.refusal.number) (sym e)))
same_answer (Err x) (Ok b) e = absurd (told-some x (ap (λ (m : Mapped). m.refusal.number) e))
same_answer (Err x) (Err y) e = ap Err (told-injective x y (ap (λ (m : Mapped). m.refusal) e))

pub reading-determined : (messages : List MessageRow) (text : List ℕ) → Determines (λ (r : Result (List Network) Refused). mapped_of r ≡ read_mapping_lem messages text)
reading-determined messages text r s p q = same_answer r s (p ∙ sym q)
