-- `verdicts::plan_of` meets its contract.
use mathlib.Core.Path.{refl}
use borrow.Author.Rules.{rules}
use Rattle.verdicts.proofs.Waiting.{causes-tidy, stalls-tidy, waits-told}
use Rattle.verdicts.proofs.plan_of.Goals as goal

pub causes_rows-causes-requires : goal.causes_rows-causes-requires
causes_rows-causes-requires c = c.requires.0

pub stalls_rows-stalls-requires : goal.stalls_rows-stalls-requires
stalls_rows-stalls-requires c = c.requires.0

pub waits_of-waits-requires : goal.waits_of-waits-requires
waits_of-waits-requires c = (c.requires.0.messages, search rules, search rules, causes-tidy c.args.t.now c.requires.0 c.requires.1 c.causes_rows-causes.result c.causes_rows-causes.ensures, stalls-tidy c.args.t.now c.requires.0 c.requires.1 c.stalls_rows-stalls.result c.stalls_rows-stalls.ensures)

pub plan_of_rows-requires : goal.plan_of_rows-requires
plan_of_rows-requires c = (c.requires.1, c.requires.0.messages)

pub returns : goal.returns
returns c =
    let w = c.waits_of-waits in
    let g = c.stalls_rows-stalls in
    let f = c.causes_rows-causes in
    c.plan_of_rows.ensures c.args.t.now c.requires.0 c.requires.1 refl
    (waits-told c.args.t.now c.requires.0 c.requires.1 f.result g.result f.ensures g.ensures w.result w.ensures.waits_only)
