-- `table_rows::sent::sent_row` meets its contract.
use mathlib.Core.Path.{◌≡◌}
use native.Mathlib.Omega.{arith}
use Rattle.rows.specs.Rows.{Bit}
use Rattle.tables.specs.Cells.{number, sent_numbers}
use Rattle.tables.proofs.Gather.{gather-all, in_some, ↔_sym, ↔_trans}
use Rattle.table_rows.proofs.sent.AtCell.{number_in}
use Rattle.table_rows.proofs.sent.sent_row.Goals as goal

pub with_bit-row-requires : goal.with_bit-row-requires
unfolding sent_numbers
with_bit-row-requires c = rw c.index.ensures (c.requires.sent _ (number_in _ c.loop-m.m-index _ (omega arith)))

pub returns : goal.returns
unfolding sent_numbers
returns c = λ b. ↔_trans (gather-all number (λ y. b ≡ y) (Bit c.loop-m.row b) _ c.loop-m.m-index (omega arith) (c.loop-m.invariant b)) (↔_sym (in_some b (sent_numbers c.args.d.now)))
