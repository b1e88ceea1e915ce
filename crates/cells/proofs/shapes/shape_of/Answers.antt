-- `cells::shapes::shape_of` meets its contract.
use mathlib.Core.Path.{sym, ◌∙◌}
use native.Mathlib.Omega.{arith}
use Rattle.papers.proofs.Recorded.{counted}
use Rattle.cells.proofs.shapes.Shapes.{count_long, count-there, too_short, no-controller, cut, five-stall, more-stall, five-go, too_long, more-go, no_word}
use Rattle.cells.proofs.shapes.shape_of.Goals as goal

pub returns-then-n-lt2 : goal.returns-then-n-lt2
returns-then-n-lt2 c = too_short _ (omega (arith, counted c.args.line.now))

pub returns-in_default : goal.returns-in_default
returns-in_default c = no-controller _ (omega (arith, count-there c.args.line.now)) c.in_default.ensures

pub returns-then-n-lt-STALL_FIELDS : goal.returns-then-n-lt-STALL_FIELDS
returns-then-n-lt-STALL_FIELDS c =
    cut _ _ c.in-Some.ensures (omega (arith, count-there c.args.line.now)) (omega (arith, counted c.args.line.now))

pub returns-then-n-eq-STALL_FIELDS : goal.returns-then-n-eq-STALL_FIELDS
returns-then-n-eq-STALL_FIELDS c =
    five-stall _ _ c.in-Some.ensures (omega (arith, counted c.args.line.now)) (sym c.says.ensures ∙ c.if-says.true)

pub returns-then-says : goal.returns-then-says
returns-then-says c =
    more-stall _ _ c.in-Some.ensures (omega (arith, count-there c.args.line.now)) (sym c.says.ensures ∙ c.if-says.true)

pub returns-then-n-eq-STALL_FIELDS-2 : goal.returns-then-n-eq-STALL_FIELDS-2
returns-then-n-eq-STALL_FIELDS-2 c =
    five-go _ _ c.in-Some.ensures (omega (arith, counted c.args.line.now)) (sym c.says-2.ensures ∙ c.if-says-2.true)

pub returns-then-n-gt-MOST_FIELDS : goal.returns-then-n-gt-MOST_FIELDS
returns-then-n-gt-MOST_FIELDS c =
    too_long _ _ c.in-Some.ensures (count_long c.args.line.now (omega arith)) (sym c.says-2.ensures ∙ c.if-says-2.true)

pub returns-then-says-2 : goal.returns-then-says-2
returns-then-says-2 c =
    more-go _ _ c.in-Some.ensures (omega (arith, count-there c.args.line.now)) (omega (arith, counted c.args.line.now))
    (sym c.says-2.ensures ∙ c.if-says-2.true)

pub returns : goal.returns
returns c =
    no_word _ _ c.in-Some.ensures (omega (arith, count-there c.args.line.now)) (sym c.says.ensures ∙ c.if-says.false)
    (sym c.says-2.ensures ∙ c.if-says-2.false)
