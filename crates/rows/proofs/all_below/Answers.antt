-- `rows::all_below` meets its contract.
use Rattle.rows.proofs.Bits.{all-below}
use Rattle.rows.proofs.all_below.Goals as goal

pub returns : goal.returns
returns c = all-below 64 c.args.n c.requires.1
