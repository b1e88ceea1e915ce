-- `protocol::sections::read_event` meets its contract.
use Rattle.tables.specs.Tables.{with_event}
use Rattle.protocol.proofs.sections.Stored.{event-room, event-stored}
use Rattle.protocol.proofs.sections.read_event.Goals as goal

pub bounds-t-t : goal.bounds-t-t
bounds-t-t c = event-room c.args.nth c.args.line.now.bytes.now c.args.t.now c.requires.kept c.messages.result.now c.events.result.now c.messages.ensures.rows c.messages.ensures.many c.events.ensures.rows c.events.ensures.many c.requires.word c.requires.order c.in_ok-row.row c.in_ok-row.ensures

pub returns : goal.returns
unfolding with_event
returns c = event-stored c.args.nth c.args.line.now.bytes.now c.args.t.now c.requires.kept c.messages.result.now c.events.result.now c.messages.ensures.rows c.messages.ensures.many c.events.ensures.rows c.events.ensures.many c.requires.word c.requires.order c.in_ok-row.row c.in_ok-row.ensures
