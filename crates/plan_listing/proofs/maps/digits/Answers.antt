-- `plan_listing::maps::digits` meets its contract.
use mathlib.Core.Path.{sym}
use native.Mathlib.Omega.{arith}
use Rattle.plan_listing.proofs.Lines.{digits-one, digits-two, digits-three}
use Rattle.plan_listing.proofs.maps.digits.Goals as goal

pub returns-in-0-to-9 : goal.returns-in-0-to-9
returns-in-0-to-9 c = record { exact = sym (digits-one c.args.n (omega arith)); few = omega arith }

pub returns-in-10-to-99 : goal.returns-in-10-to-99
returns-in-10-to-99 c = record { exact = sym (digits-two c.args.n (omega arith) (omega arith)); few = omega arith }

pub returns-in_default : goal.returns-in_default
returns-in_default c = record { exact = sym (digits-three c.args.n (omega arith) (omega (arith, c.ranges.n))); few = omega arith }
