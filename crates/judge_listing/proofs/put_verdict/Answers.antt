-- `judge_listing::put_verdict` meets its contract.
use native.Mathlib.Omega.{arith}
use Rattle.text.specs.Words.{judge_header, newline}
use Rattle.judge_listing.specs.fit.FitText.{verdict_head}
use Rattle.judge_listing.proofs.Chains.{all-four}
use Rattle.judge_listing.proofs.fit.Lengths.{verdict-length}
use Rattle.judge_listing.proofs.put_verdict.Goals as goal

pub put-a-requires : goal.put-a-requires
put-a-requires c = omega (arith, verdict-length c.args.verdict.now)

pub more-b-requires : goal.more-b-requires
more-b-requires c = omega (arith, verdict-length c.args.verdict.now)

pub more-c-requires : goal.more-c-requires
more-c-requires c = omega (arith, verdict-length c.args.verdict.now)

pub more-requires : goal.more-requires
more-requires c = omega (arith, verdict-length c.args.verdict.now)

pub returns : goal.returns
unfolding verdict_head
returns c =
    all-four judge_header newline c.args.verdict.now newline c.args.out.now c.requires _ _ c.put-a.ensures _ _ c.more-b.ensures _ _ c.more-c.ensures _ _ c.more.ensures
