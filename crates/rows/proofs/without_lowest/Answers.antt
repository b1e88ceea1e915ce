-- `rows::without_lowest` meets its contract.
use Rattle.rows.proofs.Bits.{without-lowest}
use Rattle.rows.proofs.without_lowest.Goals as goal

pub returns : goal.returns
returns c = without-lowest 64 c.args.row
