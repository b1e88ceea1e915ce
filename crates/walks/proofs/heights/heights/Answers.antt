-- `walks::heights::heights` meets its contract.
use native.Mathlib.Omega.{arith}
use Rattle.rows.proofs.FillingRows.{cleared-after}
use Rattle.walks.proofs.heights.Levels.{levels-some, in-first, heights-some, heights-none}
use Rattle.walks.proofs.heights.heights.Goals as goal
use Rattle.walks.proofs.heights.heights.Goals.{in-Some, in_default}

pub write-requires : goal.write-requires
write-requires c =
    let a = c.args in
    let r = c.rounds-count in
    let levels = c.in-Some.ensures.rounds in
    let some = levels-some a.w.now a.n _ c.in-Some.k c.requires.0 levels in
    record { n_bound = (omega arith, some, omega (arith, levels.fits), omega (arith, levels.fits, r.ensures.kept_from.long), omega arith); by_index = in-first a.w.now a.n _ c.in-Some.k levels some }

pub returns : goal.returns
returns c =
    let a = c.args in
    let r = c.rounds-count in
    record {
      heights = elim c.match-count.branch [
        | in-Some u ↦ rw (u.out-is, u.count-is) (heights-some a.w.now a.n _ a.out.now _ u.in-Some.k c.requires.0 u.write.auto.out u.in-Some.ensures.rounds u.write.ensures)
        | in_default u ↦ rw (u.out-is, u.count-is, u.in_default.is) (heights-none a.w.now a.n a.out.now u.in_default.ensures.rounds)
      ];
      cleared = cleared-after a.n a.sets.now _ _ r.ensures.kept_from c.clear.ensures;
    }
