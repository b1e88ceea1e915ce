-- `judge_listing::Walk::word` meets its contract.
use mathlib.Core.Path.{sym, ap, ◌∙◌}
use Rattle.judge_listing.specs.step_lines.StepLine.{word_of}
use Rattle.judge_listing.proofs.Places.{word-told}
use Rattle.judge_listing.proofs.Walk.word.Goals as goal

pub returns-then-has : goal.returns-then-has
returns-then-has c =
    ap word_of (sym c.if-has.true) ∙ word-told c.has.result c.args.self.now.waits.now c.args.from.0 c.args.to.0 _ _ c.index.ensures c.index-2.ensures c.has.ensures

pub returns : goal.returns
returns c =
    ap word_of (sym c.if-has.false) ∙ word-told c.has.result c.args.self.now.waits.now c.args.from.0 c.args.to.0 _ _ c.index.ensures c.index-2.ensures c.has.ensures
