-- What is stored, and what is past it.
use Prim.Native.Nat.{ℕ, zero, suc, ◌+◌, ◌-◌, ◌≤◌, ◌<◌}
use mathlib.Core.Path.{◌≡◌, refl, sym, subst, ap, ◌∙◌}
use mathlib.Core.List.{List, [], ◌∷◌, ◌++◌}
use native.Mathlib.Numerals.{add-one}
use native.Mathlib.Omega.{arith}
use lib.ListN.{length, take, drop, set, replicate}
use lib.Seq.{take-suc-set, drop-set-lt, drop-drop}
use Rattle.tables.specs.declared.MessageRow.{MessageRow}
use Rattle.tables.specs.declared.EventRow.{EventRow}
use Rattle.tables.specs.declared.StateRow.{StateRow}
use Rattle.tables.specs.declared.Cell.{Cell}
use Rattle.tables.specs.declared.Tables.{Tables}
use Rattle.tables.specs.Tables.{no_message_row, no_event_row, no_state_row, no_cell_lem, cleared_tables, messages_of_lem, events_of, states_of, stored_of, with_message, with_event, with_state, with_cell, ClearedPast}
use Rattle.tables.specs.Cells.{Each, CellOk, TablesOk}
use Rattle.tables.proofs.Gather.{each_snoc, each_map}
use Rattle.tables.proofs.InRange.{cell-more}

module _ {A : Type 0} where
  -- one more is stored behind those that were
  pub take-stored : (l : List A) (n : ℕ) (x : A) → n < length l → take (n + 1) (set l n x) ≡ take n l ++ (x ∷ [])
  take-stored l n x h = ap (λ (k : ℕ). take k (set l n x)) (add-one n) ∙ take-suc-set l n x h

  drop-one : (m : ℕ) (z : A) → drop 1 (replicate m z) ≡ replicate (m - 1) z
  drop-one zero z = refl
  drop-one (suc m) z = ap (λ (k : ℕ). replicate k z) (let e : m ≡ suc m - 1 = omega arith in e)

  -- what is past it is as it was, and one less
  drop-stored : (k : ℕ) (l : List A) (n : ℕ) (x z : A) → drop n l ≡ replicate (k - n) z → drop (n + 1) (set l n x) ≡ replicate (k - (n + 1)) z
  drop-stored k l n x z e =
      let h : n < n + 1 = omega arith in
      let q : k - n - 1 ≡ k - (n + 1) = omega arith in
      drop-set-lt (n + 1) l n x h ∙ sym (drop-drop 1 n l) ∙ ap (drop 1) e ∙ drop-one (k - n) z ∙ ap (λ (m : ℕ). replicate m z) q

-- ---- the lists of what is stored

pub message-stored : (t : Tables) (row : MessageRow) → t.message_count < length t.messages → messages_of_lem (with_message t row) ≡ messages_of_lem t ++ (row ∷ [])
unfolding with_message
message-stored t row h = take-stored t.messages t.message_count row h

pub event-stored : (t : Tables) (row : EventRow) → t.event_count < length t.events → events_of (with_event t row) ≡ events_of t ++ (row ∷ [])
unfolding with_event
event-stored t row h = take-stored t.events t.event_count row h

pub state-stored : (t : Tables) (row : StateRow) → t.state_count < length t.states → states_of (with_state t row) ≡ states_of t ++ (row ∷ [])
unfolding with_state
state-stored t row h = take-stored t.states t.state_count row h

pub cell-stored : (t : Tables) (c : Cell) → t.cell_count < length t.cells → stored_of (with_cell t c) ≡ stored_of t ++ (c ∷ [])
unfolding with_cell
cell-stored t c h = take-stored t.cells t.cell_count c h

-- ---- what is past a count is as cleared, always

pub cleared-past : ClearedPast cleared_tables
unfolding cleared_tables
cleared-past = record { messages = refl; events = refl; states = refl; cells = refl }

pub past-message : (t : Tables) (row : MessageRow) → ClearedPast t → ClearedPast (with_message t row)
unfolding with_message
past-message t row p = record {
  messages = drop-stored 64 t.messages t.message_count row no_message_row p.messages;
  events = p.events;
  states = p.states;
  cells = p.cells;
}

pub past-event : (t : Tables) (row : EventRow) → ClearedPast t → ClearedPast (with_event t row)
unfolding with_event
past-event t row p = record {
  messages = p.messages;
  events = drop-stored 8 t.events t.event_count row no_event_row p.events;
  states = p.states;
  cells = p.cells;
}

pub past-state : (t : Tables) (row : StateRow) → ClearedPast t → ClearedPast (with_state t row)
unfolding with_state
past-state t row p = record {
  messages = p.messages;
  events = p.events;
  states = drop-stored 64 t.states t.state_count row no_state_row p.states;
  cells = p.cells;
}

pub past-cell : (t : Tables) (c : Cell) → ClearedPast t → ClearedPast (with_cell t c)
unfolding with_cell
past-cell t c p = record {
  messages = p.messages;
  events = p.events;
  states = p.states;
  cells = drop-stored 512 t.cells t.cell_count c no_cell_lem p.cells;
}

-- ---- numbers stay in range

pub ok-cleared : TablesOk cleared_tables
unfolding cleared_tables Each
ok-cleared = record { messages = omega arith; events = omega arith; states = omega arith; few = omega arith; cells = tt }

-- tables with the same cells, and no fewer names
ok-more : (t u : Tables) → TablesOk t → t.message_count ≤ u.message_count → t.event_count ≤ u.event_count → t.state_count ≤ u.state_count
    → u.message_count ≤ 64 → u.event_count ≤ 8 → u.state_count ≤ 64 → u.cell_count ≤ 512 → stored_of u ≡ stored_of t → TablesOk u
ok-more t u ok a b s x y z w e = record {
  messages = x;
  events = y;
  states = z;
  few = w;
  cells =
      subst (Each (CellOk u.message_count u.event_count u.state_count)) (sym e)
      (each_map (CellOk t.message_count t.event_count t.state_count) (CellOk u.message_count u.event_count u.state_count)
      (cell-more t.message_count u.message_count t.event_count u.event_count t.state_count u.state_count a b s) (stored_of t) ok.cells);
}

pub ok-message : (t : Tables) (row : MessageRow) → t.message_count < 64 → TablesOk t → TablesOk (with_message t row)
unfolding with_message
ok-message t row h ok =
    ok-more t (with_message t row) ok (omega arith) (omega arith) (omega arith) (omega arith) (omega (arith, ok.events)) (omega (arith, ok.states)) (omega (arith, ok.few)) refl

pub ok-event : (t : Tables) (row : EventRow) → t.event_count < 8 → TablesOk t → TablesOk (with_event t row)
unfolding with_event
ok-event t row h ok =
    ok-more t (with_event t row) ok (omega arith) (omega arith) (omega arith) (omega (arith, ok.messages)) (omega arith) (omega (arith, ok.states)) (omega (arith, ok.few)) refl

pub ok-state : (t : Tables) (row : StateRow) → t.state_count < 64 → TablesOk t → TablesOk (with_state t row)
unfolding with_state
ok-state t row h ok =
    ok-more t (with_state t row) ok (omega arith) (omega arith) (omega arith) (omega (arith, ok.messages)) (omega (arith, ok.events)) (omega arith) (omega (arith, ok.few)) refl

pub ok-cell : (t : Tables) (c : Cell) → t.cell_count < 512 → t.cell_count < length t.cells → CellOk t.message_count t.event_count t.state_count c → TablesOk t
    → TablesOk (with_cell t c)
unfolding with_cell
ok-cell t c h k q ok = record {
  messages = ok.messages;
  events = ok.events;
  states = ok.states;
  few = omega arith;
  cells =
      subst (Each (CellOk t.message_count t.event_count t.state_count)) (sym (cell-stored t c k))
      (each_snoc (CellOk t.message_count t.event_count t.state_count) (stored_of t) c ok.cells q);
}
