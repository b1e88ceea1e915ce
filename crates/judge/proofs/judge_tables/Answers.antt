-- `judge::judge_tables` meets its contract.
use borrow.Author.Rules.{rules}
use Rattle.plan_listing.specs.PlanText.{first_messages}
use Rattle.verdicts.specs.Verdicts.{mapping_of_lem}
use Rattle.judge.proofs.JudgeLaws.{judged-unfit, walk-given}
use Rattle.judge.proofs.judge_tables.Goals as goal

pub unfit_listing-requires : goal.unfit_listing-requires
unfit_listing-requires c =
    let f = c.judge_of-found in
    walk-given c.args.t.now (mapping_of_lem c.args.networks) f.result f.ensures c.in-Some.cycle c.in-Some.is (search rules) (search rules)

pub returns : goal.returns
unfolding first_messages
returns c =
    let f = c.judge_of-found in
    judged-unfit c.args.t.now (mapping_of_lem c.args.networks) f.result f.ensures c.in-Some.cycle c.in-Some.is _ _ _ c.unfit_listing.ensures
