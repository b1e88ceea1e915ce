-- `papers::records::Record::field` meets its contract.
use native.Mathlib.Omega.{arith}
use Rattle.papers.proofs.Recorded.{few, at_field}
use Rattle.papers.proofs.records.Record.field.Goals as goal

pub offset_bounds-self-i : goal.offset_bounds-self-i
offset_bounds-self-i c = omega (arith, few c.args.self.now)

pub bounds-self-i : goal.bounds-self-i
bounds-self-i c = omega (arith, few c.args.self.now)

pub slice_bounds-result-count : goal.slice_bounds-result-count
slice_bounds-result-count c = omega (arith, (at_field c.args.self.now c.args.i c.requires).order)

pub slice_bounds-result-start : goal.slice_bounds-result-start
slice_bounds-result-start c = omega (arith, (at_field c.args.self.now c.args.i c.requires).order)

pub slice_bounds-result-end : goal.slice_bounds-result-end
slice_bounds-result-end c = omega (arith, (at_field c.args.self.now c.args.i c.requires).to)

pub returns : goal.returns
returns c = (at_field c.args.self.now c.args.i c.requires).bytes
