-- `judge::program::put_judgement` meets its contract.
use mathlib.Core.Path.{refl}
use Rattle.std.specs.Prelude.{Ok, Err}
use Rattle.answers.specs.Answers.{finished}
use Rattle.answers.specs.unlisted.Unlisted.{answer_of}
use Rattle.answers.proofs.Told.{unlisted-some}
use Rattle.judge.proofs.program.Printing.{print-listing, refusal-line, refusal-room, print-refusal}
use Rattle.judge.proofs.program.put_judgement.Goals as goal

pub returns-in-Ok : goal.returns-in-Ok
unfolding finished
returns-in-Ok c = print-listing c.args.protocol.now c.args.mapping.now c.args.out.now c.judge.new.out (answer_of (Ok c.in-Ok.length)) c.requires c.in-Ok.ensures refl

pub put_refused-requires : goal.put_refused-requires
put_refused-requires c =
    let u = c.in-Err.unlisted in
    rw c.of-a.ensures (
      refusal-room c.args.protocol.now c.args.mapping.now c.args.out.now c.judge.new.out (answer_of (Err u)) c.requires c.in-Err.ensures (unlisted-some u),
      refusal-line c.args.protocol.now c.args.mapping.now c.args.out.now c.judge.new.out (answer_of (Err u)) c.requires c.in-Err.ensures (unlisted-some u),
    )

pub returns-in-Err : goal.returns-in-Err
returns-in-Err c =
    let u = c.in-Err.unlisted in
    print-refusal c.args.protocol.now c.args.mapping.now c.args.out.now c.judge.new.out (answer_of (Err u)) c.requires c.in-Err.ensures (unlisted-some u) _ _ (rw c.of-a.ensures at c.put_refused.ensures)
