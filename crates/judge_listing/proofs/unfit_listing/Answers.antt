-- `judge_listing::unfit_listing` meets its contract.
use mathlib.Core.Path.{refl}
use mathlib.Core.List.{◌++◌}
use Prim.Native.Nat.{◌≤◌}
use lib.ListN.{length}
use native.Mathlib.Omega.{arith}
use Rattle.text.specs.Words.{unfit_word}
use Rattle.text.proofs.Written.{then-more}
use Rattle.judge_listing.specs.fit.FitText.{verdict_head}
use Rattle.judge_listing.specs.JudgeText.{step_texts, unfit_text}
use Rattle.judge_listing.specs.Places.{walk_steps}
use Rattle.answers.proofs.Listings.{listing-written}
use Rattle.judge_listing.proofs.fit.Lengths.{verdict-length}
use Rattle.judge_listing.proofs.StepLines.{unfit-length}
use Rattle.judge_listing.proofs.unfit_listing.Goals as goal

pub put_verdict-at-requires : goal.put_verdict-at-requires
put_verdict-at-requires c = omega (arith, verdict-length unfit_word, unfit-length c.args.messages.now (walk_steps c.args.waits.now c.args.cycle.now))

pub more_steps-end-requires : goal.more_steps-end-requires
more_steps-end-requires c =
    omega (arith, verdict-length unfit_word, unfit-length c.args.messages.now (walk_steps c.args.waits.now c.args.cycle.now))

pub returns : goal.returns
unfolding unfit_text
returns c =
    let head = verdict_head unfit_word in
    let lines = step_texts c.args.messages.now (walk_steps c.args.waits.now c.args.cycle.now) in
    let room : length (head ++ lines) ≤ length c.args.out.now = omega (arith, c.listing_length-needed.ensures) in
    listing-written (head ++ lines) c.args.out.now _ c.more_steps-end.result _ room (then-more head lines c.args.out.now _ _ room c.put_verdict-at.ensures _ _ c.more_steps-end.ensures) refl
