-- `judge_listing::Walk::name` meets its contract.
use Rattle.judge_listing.proofs.StepLines.{name-at}
use Rattle.judge_listing.proofs.Walk.name.Goals as goal

pub returns : goal.returns
returns c = name-at c.args.self.now.rows.now c.index.result c.args.m.0 c.index.ensures c.requires
