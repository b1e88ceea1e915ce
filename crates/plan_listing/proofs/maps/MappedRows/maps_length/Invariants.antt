-- `plan_listing::maps::MappedRows::maps_length` meets its contract.
use Prim.Native.Nat.{◌*◌}
use lib.ListN.{length}
use Rattle.plan_listing.specs.Lengths.{TextLength}
use Rattle.plan_listing.proofs.Lines.{maps_to}
use Rattle.plan_listing.proofs.maps.MappedRows.maps_length.Given as goal

abbrev pub invariant-loop-row : goal.invariant-loop-row
invariant-loop-row l =
    (goal.iterator-loop-row).can_next l.row-iterator ×
    (goal.iterator-loop-row).is_finite l.row-iterator × TextLength (maps_to l.self.messages.now l.self.networks.now (length l.yielded)) (33 * length l.yielded) l.total
