-- The messages that a cell sends.
use Prim.Native.Nat.{ℕ, zero, suc, ◌<◌}
use mathlib.Core.Path.{refl}
use mathlib.Core.Logic.{inl, inr}
use mathlib.Core.List.{List, [], ◌∷◌, map}
use native.Mathlib.Omega.{arith}
use lib.ListN.{length, get_or}
use Rattle.rules.specs.declared.Message.{Message}
use Rattle.rules.specs.Lists.{◌∈◌}
use Rattle.tables.specs.Cells.{number}

pub number_in : (l : List Message) (i : ℕ) (z : Message) → i < length l → number (get_or l i z) ∈ map number l
number_in [] i z h = absurd (omega arith)
number_in (m ∷ l) zero z h = inl refl
number_in (m ∷ l) (suc i) z h = inr (number_in l i z (omega arith))
