-- `cells::targets::sent_of` meets its contract.
use mathlib.Core.Path.{sym, ◌∙◌}
use mathlib.Core.List.{[]}
use native.Mathlib.Omega.{arith}
use lib.Seq.{get_or-drop}
use Rattle.text.specs.Parts.{split}
use Rattle.cells.proofs.Named.{message-known, message-unknown}
use Rattle.cells.proofs.targets.Sending.{sent_many, sending-none, sending-more, sending-stops, sending-all}
use Rattle.cells.proofs.targets.sent_of.Goals as goal

pub loop-j-init : goal.loop-j-init
loop-j-init c = sending-none _ _

pub returns-in_default : goal.returns-in_default
returns-in_default c =
    sending-stops _ _ _ _ c.loop-j.invariant (omega (arith, sent_many c.args.line.now))
    (message-unknown _ _ _ c.messages.ensures.rows c.messages.ensures.many
    (rw (c.field.ensures ∙ sym (get_or-drop 6 (split 9 c.args.line.now.bytes.now) c.loop-j.j [])) at c.in_default.ensures))

pub loop-j-preserved : goal.loop-j-preserved
loop-j-preserved c =
    sending-more _ _ _ _ c.loop-j.invariant (omega (arith, sent_many c.args.line.now)) (omega (arith, sent_many c.args.line.now)) _
    (message-known _ _ _ c.messages.ensures.rows c.messages.ensures.many _
    (rw (c.field.ensures ∙ sym (get_or-drop 6 (split 9 c.args.line.now.bytes.now) c.loop-j.j [])) at c.in-Some.ensures))

pub returns : goal.returns
returns c =
    sending-all _ _ _ _ c.loop-j.invariant _ (omega (arith, sent_many c.args.line.now)) (omega (arith, sent_many c.args.line.now))
