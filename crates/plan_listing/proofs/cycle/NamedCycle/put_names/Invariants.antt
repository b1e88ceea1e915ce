-- `plan_listing::cycle::NamedCycle::put_names` meets its contract.
use mathlib.Core.Path.{◌≡◌}
use lib.ListN.{length}
use Rattle.text.specs.Written.{Wrote}
use Rattle.plan_listing.proofs.Lines.{names_to}
use Rattle.plan_listing.proofs.cycle.NamedCycle.put_names.Given as goal

abbrev pub invariant-loop-m : goal.invariant-loop-m
invariant-loop-m l = (length l.out ≡ length l.initial.out) × Wrote (names_to l.self.rows.now l.self.cycle.now l.m-index) l.initial.out l.out l.at
