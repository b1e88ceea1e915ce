-- `protocol::sections::read_section` meets its contract.
use Prim.Native.Nat.{◌-◌}
use lib.ListN.{length}
use Rattle.protocol.specs.sections.Sections.{section_lem}
use Rattle.protocol.proofs.sections.Going.{Going}
use Rattle.protocol.proofs.sections.read_section.Given as goal

abbrev pub invariant-loop-here : goal.invariant-loop-here
invariant-loop-here l = Going (section_lem l.section) l.text l.fn.from.at l.fn.from.line l.initial.t l.here.at l.here.line l.t

abbrev pub decreases-loop-here : goal.decreases-loop-here
decreases-loop-here l = length l.text - l.here.at
