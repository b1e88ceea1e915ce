-- `rows::closure::round` meets its contract.
use mathlib.Core.Path.{sym}
use native.Mathlib.Omega.{arith}
use lib.ListN.{take}
use Rattle.std.proofs.lemmas.List.{length-take-le, get_or-take}
use Rattle.rows.proofs.Counting.{counts-le}
use Rattle.rows.proofs.Front.{front-round, front-holders}
use Rattle.rows.proofs.closure.Warshall.{round-start, round-step, round-end, round-count}
use Rattle.rows.proofs.closure.round.Goals as goal

pub loop-row-init : goal.loop-row-init
loop-row-init c = let a = c.args in round-start (take a.n a.t.now) a.n a.k _ (sym (get_or-take a.n a.t.now a.k 0 c.requires.1))

pub joined-turn-requires : goal.joined-turn-requires
joined-turn-requires c =
    let l = c.loop-row in
    let h = length-take-le c.args.n c.args.t.now c.requires.2 in
    (omega arith, omega (arith, h, counts-le _ l.row-index l.count l.invariant.counted))

pub loop-row-preserved : goal.loop-row-preserved
loop-row-preserved c =
    let l = c.loop-row in
    let a = c.args in
    let j = c.joined-turn in
    let h = length-take-le a.n a.t.now c.requires.2 in
    round-step (take a.n a.t.now) a.n a.k _ l.row-items l.row-index j.result.row l.count j.result.count (omega (arith, h)) (omega (arith, h)) j.ensures.joined j.ensures.counted l.invariant

pub returns : goal.returns
returns c =
    let l = c.loop-row in
    let a = c.args in
    let h = length-take-le a.n a.t.now c.requires.2 in
    record {
      round = front-round a.n a.t.now l.row-items c.requires.2 l.auto.row-items a.k c.requires.1 (round-end _ a.n a.k _ l.row-items l.row-index l.count (omega (arith, h)) l.invariant);
      holders = front-holders a.n a.k l.count a.t.now (round-count _ a.n a.k _ l.row-items l.row-index l.count (omega (arith, h)) l.invariant);
    }
