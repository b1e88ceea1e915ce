-- `rows::ones` meets its contract.
use Rattle.rows.proofs.Bits.{ones-place}
use Rattle.rows.proofs.ones.Goals as goal

pub returns : goal.returns
returns c = ones-place 64 c.args.row c.ranges.row.fits
