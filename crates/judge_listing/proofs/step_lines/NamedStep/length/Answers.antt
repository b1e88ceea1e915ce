-- `judge_listing::step_lines::NamedStep::length` meets its contract.
use mathlib.Core.Path.{◌≡◌, ap}
use Prim.Native.Nat.{◌≤◌}
use lib.ListN.{length}
use native.Mathlib.Omega.{arith}
use Rattle.text.specs.Name.{name_text}
use Rattle.judge_listing.specs.step_lines.StepLine.{word_text, shown_word}
use Rattle.judge_listing.proofs.step_lines.Lengths.{name-short, word-short, line-length}
use borrow.Author.Rules.{rules}
use Rattle.judge_listing.proofs.step_lines.NamedStep.length.Goals as goal

pub returns : goal.returns
returns c =
    let step = c.args.self in
    let from-short : length (name_text step.from) ≤ 24 = name-short step.from (search rules) in
    let to-short : length (name_text step.to) ≤ 24 = name-short step.to (search rules) in
    let word : length c.text.result.now ≡ length (word_text (shown_word step.word)) = ap length c.text.ensures in
    let short = word-short (shown_word step.word) in
    record {
      exact = omega (arith, c.name_length.ensures, c.name_length-2.ensures, line-length step);
      few = omega (arith, c.name_length.ensures, c.name_length-2.ensures);
    }
