-- What the reader keeps of its tables stays true as lines are stored.
use Prim.Native.Nat.{◌<◌}
use mathlib.Core.Path.{◌∙◌}
use native.Mathlib.Omega.{arith}
use lib.ListN.{length-replicate, length-set}
use Rattle.tables.specs.declared.MessageRow.{MessageRow}
use Rattle.tables.specs.declared.EventRow.{EventRow}
use Rattle.tables.specs.declared.StateRow.{StateRow}
use Rattle.tables.specs.declared.Cell.{Cell}
use Rattle.tables.specs.declared.Tables.{Tables}
use Rattle.tables.specs.Tables.{no_cell_lem, cleared_tables, with_message, with_event, with_state, with_cell}
use Rattle.tables.specs.Cells.{CellOk}
use Rattle.tables.proofs.Stored.{cleared-past, past-message, past-event, past-state, past-cell, ok-cleared, ok-message, ok-event, ok-state, ok-cell}
use Rattle.protocol.specs.whole.Kept.{Kept}

pub kept-cleared : Kept cleared_tables
unfolding cleared_tables
kept-cleared = record {
  ok = ok-cleared;
  past = cleared-past;
  long = length-replicate 512 no_cell_lem;
}

module _ (t : Tables) (k : Kept t) where
  pub kept-message : (row : MessageRow) → t.message_count < 64 → Kept (with_message t row)
  unfolding with_message
  kept-message row h = record { ok = ok-message t row h k.ok; past = past-message t row k.past; long = k.long }

  pub kept-event : (row : EventRow) → t.event_count < 8 → Kept (with_event t row)
  unfolding with_event
  kept-event row h = record { ok = ok-event t row h k.ok; past = past-event t row k.past; long = k.long }

  pub kept-state : (row : StateRow) → t.state_count < 64 → Kept (with_state t row)
  unfolding with_state
  kept-state row h = record { ok = ok-state t row h k.ok; past = past-state t row k.past; long = k.long }

  pub kept-cell : (c : Cell) → t.cell_count < 512 → CellOk t.message_count t.event_count t.state_count c → Kept (with_cell t c)
  unfolding with_cell
  kept-cell c h q = record {
    ok = ok-cell t c h (omega (arith, k.long)) q k.ok;
    past = past-cell t c k.past;
    long = length-set t.cells t.cell_count c ∙ k.long;
  }
