-- `cells::targets::sent_of` meets its contract.
use Rattle.text.specs.Parts.{split}
use Rattle.lines.specs.Line.{sent_fields}
use Rattle.cells.proofs.targets.Sending.{Sending}
use Rattle.cells.proofs.targets.sent_of.Given as goal

abbrev pub invariant-loop-j : goal.invariant-loop-j
invariant-loop-j l = Sending l.t (sent_fields (split 9 l.line.bytes.now)) l.j l.sent
