-- `judge_listing::fit::fit_listing` meets its contract.
use mathlib.Core.Path.{refl}
use Prim.Native.Nat.{◌≤◌}
use lib.ListN.{length}
use native.Mathlib.Omega.{arith}
use Rattle.text.specs.Words.{fit_word}
use Rattle.judge_listing.specs.fit.FitText.{verdict_head, fit_text}
use Rattle.answers.proofs.Listings.{listing-written}
use Rattle.judge_listing.proofs.fit.Lengths.{verdict-length}
use Rattle.judge_listing.proofs.fit.fit_listing.Goals as goal

pub returns-then-out-lt-FIT_LISTING : goal.returns-then-out-lt-FIT_LISTING
unfolding fit_text verdict_head
returns-then-out-lt-FIT_LISTING c = record { no_room = λ _. record { answer = cc; bytes = refl }; room = λ k. absurd (omega arith) }

pub put_verdict-end-requires : goal.put_verdict-end-requires
put_verdict-end-requires c =
    let room : length (verdict_head fit_word) ≤ length c.args.out.now = omega (arith, verdict-length fit_word, c.if-out-lt-FIT_LISTING.false) in
    room

pub returns : goal.returns
unfolding fit_text
returns c =
    let room : length (verdict_head fit_word) ≤ length c.args.out.now = omega (arith, verdict-length fit_word, c.if-out-lt-FIT_LISTING.false) in
    listing-written (verdict_head fit_word) c.args.out.now _ _ _ room c.put_verdict-end.ensures refl
