-- A line that is stored comes behind all the records that were stored: later sections are still empty.
use Prim.Native.Nat.{ℕ, ◌+◌, ◌<◌}
use mathlib.Core.Path.{◌≡◌, refl, sym, ap, ap₂, ◌∙◌}
use mathlib.Core.Bool.{false}
use mathlib.Core.List.{List, [], ◌∷◌, ◌++◌, map, append_assoc, append-nil}
use native.Mathlib.Omega.{arith}
use lib.ListN.{length, take, length-set, length-replicate}
use lib.Dec.{ltb}
use borrow.Author.Tests.{ltb-false, leb-false, not-false}
use Rattle.rules.specs.declared.Message.{Message}
use Rattle.text.specs.Name.{name_text}
use Rattle.text.specs.Words.{cell_word}
use Rattle.tables.specs.declared.Trigger.{Trigger}
use Rattle.tables.specs.declared.Trigger.TheVariants.{Message as OnMessage, Event as OnEvent}
use Rattle.tables.specs.declared.Outcome.{Outcome}
use Rattle.tables.specs.declared.Outcome.TheVariants.{Stall, Go}
use Rattle.tables.specs.declared.MessageRow.{MessageRow}
use Rattle.tables.specs.declared.EventRow.{EventRow}
use Rattle.tables.specs.declared.StateRow.{StateRow}
use Rattle.tables.specs.declared.Cell.{Cell}
use Rattle.tables.specs.declared.Tables.{Tables}
use Rattle.tables.specs.Tables.{no_message_row, no_event_row, no_state_row, no_cell_lem, cleared_tables, messages_of_lem, events_of, states_of, stored_of, with_message, with_event, with_state, with_cell}
use Rattle.tables.proofs.Stored.{message-stored, event-stored, state-stored, cell-stored}
use Rattle.text.specs.Line.{Line}
use Rattle.lines.specs.Line.{Section, message, event, state, cell, unknown, section_of, message_of, event_of, state_of, cell_of}
use Rattle.lines.specs.Checks.{known_cell}
use Rattle.protocol.specs.sections.Lines.{stored_in}
use Rattle.reading_laws.specs.protocols.Written.{controller_word, state_row, trigger_name, outcome_fields, message_fields, event_fields, state_fields, cell_fields, records}
use Rattle.protocol.proofs.sections.Passed.{Passed}
use Rattle.reading_laws.proofs.protocols.WrittenFields.{message-fields, event-fields, state-fields}
use Rattle.reading_laws.proofs.protocols.WrittenCells.{Sized, cell-fields}

-- ---- lists

module _ {A B : Type 0} (g : A → B) where
  map_snoc : (l : List A) (x : A) → map g (l ++ (x ∷ [])) ≡ map g l ++ (g x ∷ [])
  map_snoc [] x = refl
  map_snoc (y ∷ l) x = ap (λ (m : List B). g y ∷ m) (map_snoc l x)

  -- nothing is counted
  map-none : (n : ℕ) (l : List A) → n ≡ 0 → map g (take n l) ≡ []
  map-none n l e = ap (λ (k : ℕ). map g (take k l)) e

map_same : {A B : Type 0} (g h : A → B) → ((x : A) → g x ≡ h x) → (l : List A) → map g l ≡ map h l
map_same g h e [] = refl
map_same g h e (x ∷ l) = ap₂ (λ y m. y ∷ m) (e x) (map_same g h e l)

-- one more record in its section, where those behind it are empty
abbrev in_order_lem : List Line → List Line → List Line → List Line → List Line
in_order_lem a b c d = a ++ (b ++ (c ++ d))

module _ (a b c d : List Line) (x : Line) where
  in-first : b ≡ [] → c ≡ [] → d ≡ [] → in_order_lem (a ++ (x ∷ [])) b c d ≡ in_order_lem a b c d ++ (x ∷ [])
  in-first p q r = rw (p, q, r) (rw (append-nil (a ++ (x ∷ [])), append-nil a) refl)

  in-second : c ≡ [] → d ≡ [] → in_order_lem a (b ++ (x ∷ [])) c d ≡ in_order_lem a b c d ++ (x ∷ [])
  in-second q r = rw (q, r) (rw (append-nil (b ++ (x ∷ [])), append-nil b) (sym (append_assoc a b (x ∷ []))))

  in-third : d ≡ [] → in_order_lem a b (c ++ (x ∷ [])) d ≡ in_order_lem a b c d ++ (x ∷ [])
  in-third r = rw r (rw (append-nil (c ++ (x ∷ [])), append-nil c) (rw (append_assoc, append_assoc) refl))

  in-fourth : in_order_lem a b c (d ++ (x ∷ [])) ≡ in_order_lem a b c d ++ (x ∷ [])
  in-fourth = rw (append_assoc, append_assoc, append_assoc) refl

-- ---- one more row

module _ (t : Tables) where
  abbrev ms : List Line
  ms = map message_fields (messages_of_lem t)

  abbrev es : List Line
  es = map event_fields (events_of t)

  abbrev ss : List Line
  ss = map state_fields (states_of t)

  abbrev cs : List Line
  cs = map (cell_fields t) (stored_of t)

  -- where no cell is stored, it does not matter how one would be named
  no_cells : (u : Tables) → t.cell_count ≡ 0 → map (cell_fields u) (stored_of t) ≡ cs
  no_cells u e = map-none (cell_fields u) t.cell_count t.cells e ∙ sym (map-none (cell_fields t) t.cell_count t.cells e)

  records-message : (row : MessageRow) → t.message_count < length t.messages → t.event_count ≡ 0 → t.state_count ≡ 0 → t.cell_count ≡ 0
      → records (with_message t row) ≡ records t ++ (message_fields row ∷ [])
  unfolding records with_message
  records-message row h p q r =
      ap₂ (λ (a d : List Line). in_order_lem a es ss d) (ap (map message_fields) (message-stored t row h) ∙ map_snoc message_fields (messages_of_lem t) row) (no_cells (with_message t row) r)
      ∙ in-first ms es ss cs (message_fields row) (map-none event_fields t.event_count t.events p) (map-none state_fields t.state_count t.states q)
      (map-none (cell_fields t) t.cell_count t.cells r)

  records-event : (row : EventRow) → t.event_count < length t.events → t.state_count ≡ 0 → t.cell_count ≡ 0
      → records (with_event t row) ≡ records t ++ (event_fields row ∷ [])
  unfolding records with_event
  records-event row h q r =
      ap₂ (λ (b d : List Line). in_order_lem ms b ss d) (ap (map event_fields) (event-stored t row h) ∙ map_snoc event_fields (events_of t) row) (no_cells (with_event t row) r)
      ∙ in-second ms es ss cs (event_fields row) (map-none state_fields t.state_count t.states q) (map-none (cell_fields t) t.cell_count t.cells r)

  records-state : (row : StateRow) → t.state_count < length t.states → t.cell_count ≡ 0 → records (with_state t row) ≡ records t ++ (state_fields row ∷ [])
  unfolding records with_state
  records-state row h r =
      ap₂ (λ (c d : List Line). in_order_lem ms es c d) (ap (map state_fields) (state-stored t row h) ∙ map_snoc state_fields (states_of t) row) (no_cells (with_state t row) r)
      ∙ in-third ms es ss cs (state_fields row) (map-none (cell_fields t) t.cell_count t.cells r)

  -- a cell changes no name
  module _ (c : Cell) where
    trigger-kept : (g : Trigger) → trigger_name (with_cell t c) g ≡ trigger_name t g
    unfolding with_cell
    trigger-kept (OnMessage m) = refl
    trigger-kept (OnEvent e) = refl

    outcome-kept : (o : Outcome) (sent : List Message) → outcome_fields (with_cell t c) o sent ≡ outcome_fields t o sent
    unfolding with_cell
    outcome-kept Stall sent = refl
    outcome-kept (Go s) sent = refl

    fields-kept : (d : Cell) → cell_fields (with_cell t c) d ≡ cell_fields t d
    unfolding cell_fields with_cell
    fields-kept d =
        let own = state_row t d.state.0 in
        ap₂ (λ (x : List ℕ) (f : Line). cell_word ∷ (controller_word own.controller ∷ (name_text own.name ∷ (x ∷ f)))) (trigger-kept d.trigger)
        (outcome-kept d.outcome (take d.sent_count d.sent))

  records-cell : (c : Cell) → t.cell_count < length t.cells → records (with_cell t c) ≡ records t ++ (cell_fields t c ∷ [])
  unfolding records with_cell
  records-cell c h =
      ap (λ (d : List Line). in_order_lem ms es ss d)
      (map_same (cell_fields (with_cell t c)) (cell_fields t) (fields-kept c) (stored_of (with_cell t c))
      ∙ ap (map (cell_fields t)) (cell-stored t c h) ∙ map_snoc (cell_fields t) (stored_of t) c)
      ∙ in-fourth ms es ss cs (cell_fields t c)

-- ---- one more line

pub sized-cleared : Sized cleared_tables
unfolding cleared_tables
sized-cleared =
    record {
      messages = length-replicate 64 no_message_row;
      events = length-replicate 8 no_event_row;
      states = length-replicate 64 no_state_row;
      cells = length-replicate 512 no_cell_lem;
      few_messages = omega arith;
      few_events = omega arith;
      few_states = omega arith;
    }

pub records-cleared : records cleared_tables ≡ []
unfolding records cleared_tables
records-cleared = refl

-- What is known of the tables after a line was stored.
pub record Grown (t u : Tables) (f : Line) : Type 0 where
  pub sized : Sized u
  pub more : records u ≡ records t ++ (f ∷ [])

none-later : (n : ℕ) → ltb 0 n ≡ false → n ≡ 0
none-later n e = omega (arith, ltb-false 0 n e)

module _ (t : Tables) (z : Sized t) (f : Line) where
  snoc : (x : Line) → x ≡ f → records t ++ (x ∷ []) ≡ records t ++ (f ∷ [])
  snoc x e = ap (λ (y : Line). records t ++ (y ∷ [])) e

  grown-message : section_of f ≡ message → Passed message t f → Grown t (with_message t (message_of f)) f
  unfolding with_message
  grown-message e p =
      let room = leb-false 64 t.message_count p.room in
      let later = none-later (t.event_count + t.state_count + t.cell_count) p.order in
      record {
        sized =
            record {
              messages = length-set t.messages t.message_count (message_of f) ∙ z.messages;
              events = z.events;
              states = z.states;
              cells = z.cells;
              few_messages = omega arith;
              few_events = z.few_events;
              few_states = z.few_states;
            };
        more =
            records-message t (message_of f) (omega (arith, z.messages)) (omega arith) (omega arith) (omega arith)
            ∙ snoc (message_fields (message_of f)) (message-fields f e p.shape);
      }

  grown-event : section_of f ≡ event → Passed event t f → Grown t (with_event t (event_of f)) f
  unfolding with_event
  grown-event e p =
      let room = leb-false 8 t.event_count p.room in
      let later = none-later (t.state_count + t.cell_count) p.order in
      record {
        sized =
            record {
              messages = z.messages;
              events = length-set t.events t.event_count (event_of f) ∙ z.events;
              states = z.states;
              cells = z.cells;
              few_messages = z.few_messages;
              few_events = omega arith;
              few_states = z.few_states;
            };
        more =
            records-event t (event_of f) (omega (arith, z.events)) (omega arith) (omega arith)
            ∙ snoc (event_fields (event_of f)) (event-fields f e p.shape);
      }

  grown-state : section_of f ≡ state → Passed state t f → Grown t (with_state t (state_of f)) f
  unfolding with_state
  grown-state e p =
      let room = leb-false 64 t.state_count p.room in
      let later = none-later t.cell_count p.order in
      record {
        sized =
            record {
              messages = z.messages;
              events = z.events;
              states = length-set t.states t.state_count (state_of f) ∙ z.states;
              cells = z.cells;
              few_messages = z.few_messages;
              few_events = z.few_events;
              few_states = omega arith;
            };
        more =
            records-state t (state_of f) (omega (arith, z.states)) later
            ∙ snoc (state_fields (state_of f)) (state-fields f e p.shape);
      }

  grown-cell : section_of f ≡ cell → Passed cell t f → Grown t (with_cell t (cell_of t f)) f
  unfolding with_cell
  grown-cell e p =
      let room = leb-false 512 t.cell_count p.room in
      record {
        sized =
            record {
              messages = z.messages;
              events = z.events;
              states = z.states;
              cells = length-set t.cells t.cell_count (cell_of t f) ∙ z.cells;
              few_messages = z.few_messages;
              few_events = z.few_events;
              few_states = z.few_states;
            };
        more =
            records-cell t (cell_of t f) (omega (arith, z.cells))
            ∙ snoc (cell_fields t (cell_of t f)) (cell-fields t z f e p.shape (not-false (known_cell t f) p.known));
      }

  -- a line that passes is one record more, of its section
  pub grown : (s : Section) → section_of f ≡ s → Passed s t f → Grown t (stored_in s t f) f
  grown message e p = grown-message e p
  grown event e p = grown-event e p
  grown state e p = grown-state e p
  grown cell e p = grown-cell e p
  grown unknown e p = absurd (let q = p.shape in let y : ◌≡◌ {A = ℕ} 0 1 = cc in omega arith)
