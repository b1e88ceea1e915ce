-- `text::count` meets its contract.
use mathlib.Core.Path.{◌≡◌}
use Prim.Native.Nat.{◌+◌}
use lib.ListN.{drop}
use Rattle.text.specs.Parts.{how_many}
use Rattle.text.proofs.count.Given as goal

abbrev pub invariant-loop-byte : goal.invariant-loop-byte
invariant-loop-byte l = l.n + how_many l.b (drop l.byte-index l.text) ≡ how_many l.b l.text
