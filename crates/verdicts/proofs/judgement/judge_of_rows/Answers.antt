-- `verdicts::judgement::judge_of_rows` meets its contract.
use mathlib.Core.Path.{◌≡◌}
use borrow.Author.Rules.{rules}
use Rattle.verdicts.proofs.judgement.Verdict.{shown_of, judged}
use Rattle.verdicts.proofs.judgement.judge_of_rows.Goals as goal

pub returns : goal.returns
returns c =
    let y = c.cycle-found in
    let messages = c.messages_of-messages in
    let e : c.map.result ≡ shown_of messages.result y.result = search rules in
    rw e (judged c.args.waits c.args.steps.now c.args.n c.requires.0 y.new.out y.result y.ensures.cycle messages.result messages.ensures)
