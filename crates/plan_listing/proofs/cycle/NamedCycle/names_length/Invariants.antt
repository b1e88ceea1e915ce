-- `plan_listing::cycle::NamedCycle::names_length` meets its contract.
use Prim.Native.Nat.{◌*◌}
use Rattle.plan_listing.specs.Lengths.{TextLength}
use Rattle.plan_listing.proofs.Lines.{names_to}
use Rattle.plan_listing.proofs.cycle.NamedCycle.names_length.Given as goal

abbrev pub invariant-loop-message : goal.invariant-loop-message
invariant-loop-message l = TextLength (names_to l.self.rows.now l.self.cycle.now l.message-index) (25 * l.message-index) l.total
