-- `judge_listing::step_lines::more_between` meets its contract.
use mathlib.Core.List.{◌++◌}
use lib.ListN.{length-append}
use native.Mathlib.Omega.{arith}
use Rattle.text.specs.Words.{tab}
use Rattle.text.proofs.Written.{pasted-next}
use Rattle.judge_listing.specs.step_lines.StepLine.{word_text, shown_word}
use Rattle.judge_listing.proofs.step_lines.more_between.Goals as goal

pub returns : goal.returns
returns c =
    let word = word_text (shown_word c.args.word) in
    let k = simp length-append at c.requires in
    let at_word = pasted-next tab word c.args.out.now _ c.args.at _ (simp length-append (omega arith)) c.more-a.ensures _ _ (rw c.text.ensures at c.more-b.ensures) in
    pasted-next (tab ++ word) tab c.args.out.now _ c.args.at _ c.requires at_word _ _ c.more.ensures
