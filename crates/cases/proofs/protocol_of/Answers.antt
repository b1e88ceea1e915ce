-- The tables that `cases::protocol_of` gives are those of a reading.
use mathlib.Core.Path.{◌≡◌, refl}
use Prim.Native.Nat.{ℕ}
use mathlib.Core.List.{List}
use Rattle.std.specs.Prelude.{Result, Ok, Err}
use Rattle.papers.specs.declared.refused.Refused.{Refused}
use Rattle.tables.specs.declared.Tables.{Tables}
use Rattle.protocol.specs.whole.Whole.{reading_of}
use Rattle.protocol.specs.Reading.{read_protocol_lem}
use Rattle.reading_laws.proofs.protocols.Accepted.{call-ready}
use Rattle.cases.specs.Printable.{Printable}
use Rattle.cases.proofs.protocol_of.Goals as goal

printable : (text : List ℕ) (r : Result Tables Refused) → reading_of r ≡ read_protocol_lem text → Printable r
printable text (Ok t) e = (call-ready text (reading_of (Ok t)) e refl).0
printable text (Err why) e = tt

pub returns : goal.returns
returns g c = printable _ c.read_protocol.result c.read_protocol.ensures
