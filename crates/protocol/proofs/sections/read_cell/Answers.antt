-- `protocol::sections::read_cell` meets its contract.
use Rattle.tables.specs.Tables.{with_cell}
use Rattle.protocol.proofs.sections.Stored.{cell_room, cell_stored}
use Rattle.protocol.proofs.sections.read_cell.Goals as goal

pub bounds-t-t : goal.bounds-t-t
bounds-t-t c = cell_room c.args.nth c.args.line.now.bytes.now c.args.t.now c.requires.kept c.requires.word c.in_ok-row.row c.in_ok-row.ensures

pub returns : goal.returns
unfolding with_cell
returns c = cell_stored c.args.nth c.args.line.now.bytes.now c.args.t.now c.requires.kept c.requires.word c.in_ok-row.row c.in_ok-row.ensures
