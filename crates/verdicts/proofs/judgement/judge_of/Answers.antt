-- `verdicts::judgement::judge_of` meets its contract.
use mathlib.Core.Path.{refl}
use Rattle.tables.specs.Cells.{relations_of_tables}
use borrow.Author.Rules.{rules}
use Rattle.verdicts.specs.Verdicts.{mapping_of_lem, WaitsOf}
use Rattle.verdicts.proofs.Waiting.{causes-tidy, stalls-tidy, waits-told}
use Rattle.verdicts.proofs.judgement.Verdict.{steps-told, steps-within}
use Rattle.verdicts.proofs.judgement.judge_of.Goals as goal

pub causes_rows-causes-requires : goal.causes_rows-causes-requires
causes_rows-causes-requires c = c.requires.0

pub stalls_rows-stalls-requires : goal.stalls_rows-stalls-requires
stalls_rows-stalls-requires c = c.requires.0

pub waits_of-waits-requires : goal.waits_of-waits-requires
waits_of-waits-requires c = (c.requires.0.messages, search rules, search rules, causes-tidy c.args.t.now c.requires.0 c.requires.1 c.causes_rows-causes.result c.causes_rows-causes.ensures, stalls-tidy c.args.t.now c.requires.0 c.requires.1 c.stalls_rows-stalls.result c.stalls_rows-stalls.ensures)

pub steps_of-steps-requires : goal.steps_of-steps-requires
steps_of-steps-requires c = c.requires.0.messages

pub judge_of_rows-requires : goal.judge_of_rows-requires
judge_of_rows-requires c = (c.requires.0.messages, steps-within c.waits_of-waits.result _ (mapping_of_lem c.args.networks.now) c.args.t.now.message_count c.steps_of-steps.result c.steps_of-steps.ensures)

pub returns : goal.returns
returns c =
    let waits-are : WaitsOf (relations_of_tables c.args.t.now) c.waits_of-waits.result = let g = c.stalls_rows-stalls in let f = c.causes_rows-causes in waits-told c.args.t.now c.requires.0 c.requires.1 f.result g.result f.ensures g.ensures c.waits_of-waits.result c.waits_of-waits.ensures.waits_only in
    let g = c.stalls_rows-stalls in
    let w = c.waits_of-waits in
    let f = c.steps_of-steps in
    let told = waits-are in
    c.judge_of_rows.ensures c.args.t.now (mapping_of_lem c.args.networks.now) c.requires.0 c.requires.1 refl told
    (steps-told c.args.t.now c.requires.0 c.requires.1 (mapping_of_lem c.args.networks.now) g.result g.ensures w.result f.result told f.ensures)
