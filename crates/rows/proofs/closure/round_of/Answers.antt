-- `rows::closure::round_of` meets its contract.
use borrow.Author.Tests.{not-true}
use Rattle.rows.proofs.Told.{told-false}
use Rattle.rows.proofs.closure.Warshall.{round-none, holders-none}
use Rattle.rows.proofs.closure.round_of.Goals as goal

pub returns-then-not-has : goal.returns-then-not-has
returns-then-not-has c =
    let t = c.has in
    let g = told-false _ t.result t.ensures (not-true t.result c.if-not-has.true-raw) in
    record { round = round-none c.args.t.now c.args.n c.args.k c.args.held c.requires.3 g; holders = holders-none c.args.t.now c.args.n c.args.k c.args.held c.requires.3 g }
