-- Each contract of this crate leaves one answer.
use Prim.Native.Nat.{ℕ}
use mathlib.Core.Path.{◌≡◌, sym, ap, ◌∙◌}
use mathlib.Core.List.{List}
use Rattle.std.specs.Prelude.{Result, Ok, Err}
use Rattle.determined.specs.Determined.{Determines}
use Rattle.papers.specs.declared.refused.Refused.{Refused}
use Rattle.papers.proofs.Refusals.{told-some, told-injective}
use Rattle.tables.specs.declared.Tables.{Tables}
use Rattle.protocol.specs.whole.Whole.{Reading, reading_of}
use Rattle.protocol.specs.Reading.{read_protocol_lem}

-- two answers of which the same reading is told are the same
pub reading-injective : (a b : Result Tables Refused) → reading_of a ≡ reading_of b → a ≡ b
reading-injective (Ok t) (Ok u) e = ap (λ (r : Reading). Ok r.tables) e
reading-injective (Ok t) (Err s) e = absurd (told-some s (sym (ap (λ (r : Reading). r.refusal.number) e)))
reading-injective (Err r) (Ok u) e = absurd (told-some r (ap (λ (x : Reading). x.refusal.number) e))
reading-injective (Err r) (Err s) e = ap (λ z. Err z) (told-injective r s (ap (λ (x : Reading). x.refusal) e))

pub reading-determined : (text : List ℕ) → Determines (λ (r : Result Tables Refused). reading_of r ≡ read_protocol_lem text)
reading-determined text r s p q = reading-injective r s (p ∙ sym q)
