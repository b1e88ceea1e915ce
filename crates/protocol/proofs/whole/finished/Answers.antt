-- `protocol::whole::finished` meets its contract.
use mathlib.Core.Path.{◌∙◌}
use native.Mathlib.Omega.{arith}
use Rattle.protocol.proofs.whole.Whole.{entry_place, no-message, no-entry, all_right}
use Rattle.protocol.proofs.whole.finished.Goals as goal

pub returns-then-messages-eq0 : goal.returns-then-messages-eq0
returns-then-messages-eq0 c = c.whole.ensures ∙ no-message c.args.t.now c.if-messages-eq0.true

pub returns-in-Some : goal.returns-in-Some
returns-in-Some c =
    let t = c.args.t.now in
    let found = c.in-Some.ensures in
    c.whole-in-Some.ensures ∙ no-entry t c.in-Some.i (λ e. omega arith) (entry_place t c.in-Some.i c.requires.long c.requires.ok.few found.0) found.1

pub returns : goal.returns
returns c =
    let t = c.args.t.now in
    all_right t t.cell_count (λ e. omega arith) (entry_place t t.cell_count c.requires.long c.requires.ok.few c.in_default.ensures) (omega arith)
