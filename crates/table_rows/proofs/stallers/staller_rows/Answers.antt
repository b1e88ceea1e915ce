-- `table_rows::stallers::staller_rows` meets its contract.
use borrow.Author.Rules.{rules}
use Rattle.table_rows.proofs.stallers.Taking.{taken-tidy, staller-rows}
use Rattle.table_rows.proofs.stallers.staller_rows.Goals as goal

pub gather-requires : goal.gather-requires
gather-requires c = (search rules, search rules, search rules, search rules, taken-tidy c.args.t.now c.requires c.taken_rows-taken.result c.taken_rows-taken.ensures)

pub returns : goal.returns
returns c =
    let ca = c.carrier_rows-carriers in
    let ta = c.taken_rows-taken in
    let g = c.gather in
    staller-rows c.args.t.now c.requires ca.result ta.result g.new.rows ca.ensures ta.ensures g.ensures
