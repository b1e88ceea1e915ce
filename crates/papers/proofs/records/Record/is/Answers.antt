-- `papers::records::Record::is` meets its contract.
use Rattle.papers.proofs.Recorded.{some}
use Rattle.papers.proofs.records.Record.is.Goals as goal

pub says-requires : goal.says-requires
says-requires c = some c.args.self.now
