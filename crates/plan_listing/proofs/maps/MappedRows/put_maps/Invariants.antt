-- `plan_listing::maps::MappedRows::put_maps` meets its contract.
use mathlib.Core.Path.{◌≡◌}
use lib.ListN.{length}
use Rattle.text.specs.Written.{Wrote}
use Rattle.plan_listing.proofs.Lines.{maps_to}
use Rattle.plan_listing.proofs.maps.MappedRows.put_maps.Given as goal

abbrev pub invariant-loop-row : goal.invariant-loop-row
invariant-loop-row l =
    (goal.iterator-loop-row).can_next l.row-iterator ×
    (goal.iterator-loop-row).is_finite l.row-iterator ×
    (length l.out ≡ length l.initial.out) × Wrote (maps_to l.self.messages.now l.self.networks.now (length l.yielded)) l.initial.out l.out l.at
