-- `protocol::sections::read_message` meets its contract.
use Rattle.tables.specs.Tables.{with_message}
use Rattle.protocol.proofs.sections.Stored.{message-room, message-stored}
use Rattle.protocol.proofs.sections.read_message.Goals as goal

pub bounds-t-t : goal.bounds-t-t
bounds-t-t c = message-room c.args.nth c.args.line.now.bytes.now c.args.t.now c.requires.kept c.messages.result.now c.messages.ensures.rows c.messages.ensures.many c.requires.word c.requires.order c.in_ok-row.row c.in_ok-row.ensures

pub returns : goal.returns
unfolding with_message
returns c = message-stored c.args.nth c.args.line.now.bytes.now c.args.t.now c.requires.kept c.messages.result.now c.messages.ensures.rows c.messages.ensures.many c.requires.word c.requires.order c.in_ok-row.row c.in_ok-row.ensures
