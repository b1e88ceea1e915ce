-- `rows::gather::gather` meets its contract.
use mathlib.Core.Path.{◌∙◌}
use native.Mathlib.Omega.{arith}
use Rattle.rows.proofs.gather.Gathering.{gather-start, gather-step, gather-end}
use Rattle.rows.proofs.gather.gather.Goals as goal

pub clear-requires : goal.clear-requires
clear-requires c = let p = c.requires in (p.0, p.3)

pub loop-a-init : goal.loop-a-init
loop-a-init c = let a = c.args in gather-start a.n a.given.now a.sets.now _ c.clear.ensures.none

pub spread-requires : goal.spread-requires
spread-requires c =
    λ b x. let l = c.loop-a in
    omega (arith, c.requires.4 l.a b (omega arith) x, c.requires.3, l.invariant.kept.long, c.clear.ensures.kept.long)

pub loop-a-preserved : goal.loop-a-preserved
loop-a-preserved c =
    let l = c.loop-a in
    let sp = c.spread in
    gather-step c.args.n c.args.given.now c.args.sets.now c.clear.new.rows l.rows l.a sp.new.rows c.requires.4 (omega arith) sp.ensures l.invariant

pub shape_of-rows : goal.shape_of-rows
shape_of-rows c = c.loop-a.invariant.kept.long ∙ c.clear.ensures.kept.long

pub returns : goal.returns
returns c =
    let l = c.loop-a in
    let cl = c.clear in
    gather-end c.args.n c.args.given.now c.args.sets.now cl.new.rows c.args.rows.now l.rows l.a (omega arith) cl.ensures.kept l.invariant
