-- `rows::meet` meets its contract.
use Rattle.rows.proofs.Bits.{bit-and}
use Rattle.rows.proofs.meet.Goals as goal

pub returns : goal.returns
returns c = record { bits = bit-and c.args.a c.args.b }
