-- `waits::waits` meets its contract.
use Rattle.waits.proofs.Waiting.{waits-of}
use Rattle.waits.proofs.waits.Goals as goal

pub returns : goal.returns
returns c =
    let cl = c.closure-joins in
    let g = c.gather in
    record { closure = cl.ensures.closure; waits_rows = waits-of c.args.n c.args.causes.now c.requires.4 cl.new.t c.args.stalls.now c.args.waits.now g.new.rows cl.ensures.closure g.ensures; value = cl.ensures.value }
