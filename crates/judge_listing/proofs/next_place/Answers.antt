-- `judge_listing::next_place` meets its contract.
use native.Mathlib.Omega.{arith}
use Rattle.judge_listing.proofs.Places.{next-on, next-back}
use Rattle.judge_listing.proofs.next_place.Goals as goal

pub returns-then-i-count : goal.returns-then-i-count
returns-then-i-count c = omega (arith, next-back c.args.count c.args.i (omega arith))

pub returns : goal.returns
returns c = omega (arith, next-on c.args.count c.args.i (omega arith))
