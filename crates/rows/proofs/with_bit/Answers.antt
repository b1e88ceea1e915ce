-- `rows::with_bit` meets its contract.
use Rattle.rows.proofs.Bits.{bit-set}
use Rattle.rows.proofs.with_bit.Goals as goal

pub returns : goal.returns
returns c = record { bits = λ i. bit-set 64 c.args.row c.args.j i c.requires }
