-- `rows::lowest` meets its contract.
use native.Mathlib.Omega.{arith}
use lib.Count.{trailing_le, leading_le}
use Rattle.rows.proofs.Bits.{lowest-place}
use Rattle.rows.proofs.lowest.Goals as goal

-- a count of zeros fits, from whichever end: a count from the wrong one is told below
pub overflow_cast-result : goal.overflow_cast-result
overflow_cast-result c = omega (arith, trailing_le 64 c.args.row, leading_le 64 c.args.row)

pub returns : goal.returns
returns c = lowest-place 64 c.args.row c.ranges.row.fits c.requires
