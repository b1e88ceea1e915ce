-- Each contract of this crate leaves one answer.
use Prim.Native.Nat.{ℕ}
use mathlib.Core.Path.{◌≡◌, refl, sym, ◌∙◌}
use mathlib.Core.List.{List, []}
use native.Mathlib.Omega.{arith}
use lib.ListN.{length, take}
use lib.Seq.{take_all}
use Rattle.std.proofs.lemmas.Result.{IfOk-at_ok}
use Rattle.determined.specs.Determined.{Determines}
use Rattle.text.specs.Line.{Line}
use Rattle.papers.proofs.Refusals.{refusal-injective}
use Rattle.tables.specs.declared.MessageRow.{MessageRow}
use Rattle.tables.specs.declared.EventRow.{EventRow}
use Rattle.tables.specs.declared.StateRow.{StateRow}
use Rattle.tables.specs.declared.Tables.{Tables}
use Rattle.tables.proofs.Given.{given}
use Rattle.declarations.specs.Told.{LineTold}
use Rattle.declarations.specs.messages.Told.{MessageTold}
use Rattle.declarations.specs.events.Told.{EventTold}
use Rattle.declarations.specs.states.Told.{StateTold}

all_rows : {Row : Type 0} (rows : List Row) → take (length rows) rows ≡ rows
all_rows rows = take_all (length rows) rows (omega arith)

-- behind some tables that were read so
told-determined : {Row : Type 0} (ReadSo : Tables → Type 0) (row_of : Line → Row) (k : ℕ) (line : List ℕ) (t : Tables) → ReadSo t → Determines (LineTold ReadSo row_of k line)
told-determined ReadSo row_of k line t o r s p q =
    refusal-injective r s (sym (p.told t o) ∙ q.told t o) (λ x y e g. IfOk-at_ok _ e p.row ∙ sym (IfOk-at_ok _ g q.row))

pub message-line-determined : (k : ℕ) (line : List ℕ) (messages : List MessageRow) → Determines (MessageTold k line messages)
message-line-determined k line messages =
    told-determined _ _ k line (given messages (length messages) [] 0 [] 0 [] 0)
    (record { rows = all_rows messages; many = refl; no-event = refl; no-state = refl; no_cell = refl })

pub event-line-determined : (k : ℕ) (line : List ℕ) (messages : List MessageRow) (events : List EventRow) → Determines (EventTold k line messages events)
event-line-determined k line messages events =
    told-determined _ _ k line (given messages (length messages) events (length events) [] 0 [] 0)
    (record { messages_are = all_rows messages; messages_many = refl; rows = all_rows events; many = refl; no-state = refl; no_cell = refl })

pub state-line-determined : (k : ℕ) (line : List ℕ) (states : List StateRow) → Determines (StateTold k line states)
state-line-determined k line states =
    told-determined _ _ k line (given [] 0 [] 0 states (length states) [] 0) (record { rows = all_rows states; many = refl; no_cell = refl })
