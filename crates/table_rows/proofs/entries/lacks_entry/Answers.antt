-- `table_rows::entries::lacks_entry` meets its contract.
use lib.ListN.{get_or}
use Rattle.rows.specs.Rows.{Bit}
use Rattle.table_rows.proofs.entries.AtCell.{answer-empty, message-no-entry}
use Rattle.table_rows.proofs.entries.lacks_entry.Goals as goal

pub returns-in-Stall-Message : goal.returns-in-Stall-Message
returns-in-Stall-Message c =
    let d = c.args.d.now in
    let row = get_or c.args.stallers.now d.state.0 0 in
    let r = answer-empty 64 row (c.fits-stallers d.state.0) in
    rw c.index.ensures
    (λ e. message-no-entry d (Bit row) c.in-Stall-Message.field-0-1 c.in-Stall-Message.is-0 c.in-Stall-Message.is-1 (r.0 e), λ t. r.1 t.2)
