-- `protocol::sections::read_state` meets its contract.
use Rattle.tables.specs.Tables.{with_state}
use Rattle.protocol.proofs.sections.Stored.{state-room, state-stored}
use Rattle.protocol.proofs.sections.read_state.Goals as goal

pub bounds-t-t : goal.bounds-t-t
bounds-t-t c = state-room c.args.nth c.args.line.now.bytes.now c.args.t.now c.requires.kept c.states.result.now c.states.ensures.rows c.states.ensures.many c.requires.word c.requires.order c.in_ok-row.row c.in_ok-row.ensures

pub returns : goal.returns
unfolding with_state
returns c = state-stored c.args.nth c.args.line.now.bytes.now c.args.t.now c.requires.kept c.states.result.now c.states.ensures.rows c.states.ensures.many c.requires.word c.requires.order c.in_ok-row.row c.in_ok-row.ensures
