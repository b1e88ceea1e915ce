-- `text::line_fields::fields_of` meets its contract.
use Rattle.text.proofs.FieldLaws.{Filled}
use Rattle.text.proofs.line_fields.fields_of.Given as goal

abbrev pub invariant-loop-n : goal.invariant-loop-n
invariant-loop-n l = Filled l.text l.from l.to l.n l.e l.spans
