-- `judge_listing::step_lines::NamedStep::put` meets its contract.
use lib.ListN.{length-append}
use native.Mathlib.Omega.{arith}
use Rattle.text.specs.Name.{name_text}
use Rattle.text.specs.Words.{step_word, tab, newline}
use Rattle.judge_listing.specs.step_lines.StepLine.{line_of_step, between, word_text, shown_word, named_line}
use Rattle.judge_listing.proofs.Chains.{all-six}
use Rattle.judge_listing.proofs.step_lines.Lengths.{line-length}
use Rattle.judge_listing.proofs.step_lines.NamedStep.put.Goals as goal

pub put-a-requires : goal.put-a-requires
put-a-requires c = omega (arith, line-length c.args.self)

pub more-b-requires : goal.more-b-requires
more-b-requires c = omega (arith, line-length c.args.self)

pub more_name-c-requires : goal.more_name-c-requires
more_name-c-requires c = omega (arith, line-length c.args.self)

pub more_between-d-requires : goal.more_between-d-requires
more_between-d-requires c = simp length-append (omega (arith, line-length c.args.self))

pub more_name-e-requires : goal.more_name-e-requires
more_name-e-requires c = let k = simp length-append at c.more_between-d.ensures.count in omega (arith, line-length c.args.self)

pub more-requires : goal.more-requires
more-requires c = let k = simp length-append at c.more_between-d.ensures.count in omega (arith, line-length c.args.self)

pub returns : goal.returns
unfolding named_line line_of_step
returns c =
    all-six step_word tab (name_text c.args.self.from) (between (word_text (shown_word c.args.self.word))) (name_text c.args.self.to) newline c.args.out.now c.requires
    _ _ c.put-a.ensures _ _ c.more-b.ensures _ _ c.more_name-c.ensures _ _ c.more_between-d.ensures _ _ c.more_name-e.ensures _ _ c.more.ensures
