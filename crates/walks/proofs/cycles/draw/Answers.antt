-- `walks::cycles::draw` meets its contract.
use native.Mathlib.Omega.{arith}
use Rattle.rows.proofs.FillingRows.{cleared-after}
use Rattle.walks.proofs.cycles.draw.Goals as goal

pub layers-requires : goal.layers-requires
layers-requires c =
    let p = c.requires in
    (omega arith, p.best.below, p.best.fits, omega arith, omega arith)

pub show-requires : goal.show-requires
show-requires c =
    let p = c.requires in
    let l = c.layers.ensures in
    record { n_bound = (omega arith, omega arith, omega arith, omega (arith, l.kept_from.long), omega arith); within = p.within; best = p.best; layers = l.layers }

pub returns : goal.returns
returns c =
    let a = c.args in
    record { drawn = c.show.ensures; cleared = cleared-after a.n a.sets.now _ _ c.layers.ensures.kept_from c.clear.ensures }
