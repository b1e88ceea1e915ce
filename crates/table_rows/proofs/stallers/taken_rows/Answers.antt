-- `table_rows::stallers::taken_rows` meets its contract.
use Rattle.table_rows.proofs.stallers.Taking.{taken-rows}
use Rattle.table_rows.proofs.stallers.taken_rows.Goals as goal

pub returns : goal.returns
returns c =
    let le = c.leading_rows-rows in
    let cl = c.closure in
    taken-rows c.args.t.now c.requires le.result cl.new.t c.add_own.new.rows le.ensures cl.ensures.closure c.add_own.ensures
