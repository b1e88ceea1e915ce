-- `rows::join` meets its contract.
use Rattle.rows.proofs.Bits.{bit-or}
use Rattle.rows.proofs.join.Goals as goal

pub returns : goal.returns
returns c = record { bits = bit-or c.args.a c.args.b }
