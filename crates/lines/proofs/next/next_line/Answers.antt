-- `lines::next::next_line` meets its contract.
use Prim.Native.Nat.{◌≤◌}
use native.Mathlib.Omega.{arith}
use Rattle.papers.proofs.Walk.{walk-next}
use Rattle.lines.proofs.next.next_line.Goals as goal
use Rattle.lines.proofs.next.next_line.Goals.{After-find-end}

starts : (c : After-find-end) → c.args.at ≤ c.find-end.result
starts c = omega (arith, (walk-next c.args.text.now c.args.at c.requires.0 c.requires.1).from, c.find-end.ensures)

pub slice_bounds-of-count : goal.slice_bounds-of-count
slice_bounds-of-count c = starts (goal.at.slice_bounds-of-count c).After-find-end

pub slice_bounds-of-start : goal.slice_bounds-of-start
slice_bounds-of-start c = starts (goal.at.slice_bounds-of-start c).After-find-end

pub slice_bounds-of-end : goal.slice_bounds-of-end
slice_bounds-of-end c = omega (arith, (walk-next c.args.text.now c.args.at c.requires.0 c.requires.1).ends, c.find-end.ensures)

pub returns : goal.returns
returns c = record { ends = c.find-end.ensures; line = c.of.ensures }
