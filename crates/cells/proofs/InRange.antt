-- The numbers of a cell that is not refused are those of declared messages, events and states.
use Prim.Native.Nat.{ℕ, ◌-◌, ◌≤◌, ◌<◌}
use mathlib.Core.Path.{◌≡◌, refl, sym, ap, ◌∙◌}
use mathlib.Core.Logic.{⊎_elim}
use mathlib.Core.Bool.{Bool, true, false, ◌&&◌, ◌||◌}
use mathlib.Core.List.{List, [], ◌∷◌, map}
use native.Mathlib.Omega.{arith}
use lib.ListN.{length, replicate, length-drop, length-map, drop_of_length-le}
use lib.Seq.{take_at}
use lib.Dec.{leb}
use borrow.Author.Tests.{ltb-true}
use Rattle.std.specs.Prelude.{Ok}
use Rattle.rules.specs.Lists.{◌∈◌}
use Rattle.text.specs.Parts.{split}
use Rattle.text.specs.Words.{stall_word, cell_word}
use Rattle.tables.specs.declared.Cell.{Cell}
use Rattle.tables.specs.declared.Tables.{Tables}
use Rattle.tables.specs.Cells.{number, TriggerOk, OutcomeOk, CellOk, sent_numbers as numbers_of}
use Rattle.tables.specs.names.Names.{message_at, event_at_lem, state_at, is_message, is_event, is_state_name}
use Rattle.text.specs.Line.{Line, field, says}
use Rattle.lines.specs.Line.{cell, cell_controller, message_no, trigger_of, outcome_of, sent_fields, sent_of_lem, cell_of}
use Rattle.lines.specs.Checks.{shaped, is_trigger, is_cache, all_messages, known_cell, stall_in_stable, conflict}
use Rattle.lines.proofs.Reasons.{Reason, tells-number, one_number, line_reason, refuses}
use Rattle.lines.proofs.Sections.{a-cell}
use Rattle.lines.proofs.Both.{and_left, and_right}
use Rattle.cells.specs.Told.{CellTold}
use Rattle.cells.specs.shapes.Shape.{StallLine, GoLine}
use Rattle.cells.proofs.shapes.Shapes.{shaped-way}
use Rattle.cells.proofs.Judging.{in_order}

-- ---- what is known of a line that is not refused

module _ (t : Tables) (f : Line) (e : (line_reason cell t f).number ≡ 0) where
  pub was-shaped : shaped cell f ≡ true
  was-shaped = go (shaped cell f) refl
    where
      go : (b : Bool) → shaped cell f ≡ b → shaped cell f ≡ true
      go true p = p
      go false p =
          absurd (omega (arith, ap (λ (r : Reason). r.number) (sym (in_order t f false (known_cell t f) (leb 512 t.cell_count) (stall_in_stable cell t f) (conflict cell t f) p refl refl refl refl)) ∙ e))

  pub was-known : known_cell t f ≡ true
  was-known = go (known_cell t f) refl
    where
      go : (b : Bool) → known_cell t f ≡ b → known_cell t f ≡ true
      go true p = p
      go false p =
          absurd (omega (arith, ap (λ (r : Reason). r.number) (sym (in_order t f true false (leb 512 t.cell_count) (stall_in_stable cell t f) (conflict cell t f) was-shaped p refl refl refl)) ∙ e))

-- ---- the numbers of such a line

trigger-ok : (t : Tables) (f : Line) (x : List ℕ) → is_trigger t (cell_controller f) x ≡ true → TriggerOk t.message_count t.event_count (trigger_of t x)
trigger-ok t f x h = go (is_message t x) refl
  where
    go : (b : Bool) → is_message t x ≡ b → TriggerOk t.message_count t.event_count (trigger_of t x)
    go true p = rw p (ltb-true (message_at t x) t.message_count p)
    go false p = rw p (ltb-true (event_at_lem t x) t.event_count (and_right (is_cache (cell_controller f)) (is_event t x) (rw p at h)))

next-ok : (t : Tables) (f : Line)
    → (says f 4 stall_word || (is_state_name t (cell_controller f) (field f 5) && all_messages t (sent_fields f))) ≡ true → OutcomeOk t.state_count (outcome_of t f)
next-ok t f h = go (says f 4 stall_word) refl
  where
    go : (b : Bool) → says f 4 stall_word ≡ b → OutcomeOk t.state_count (outcome_of t f)
    go true p = rw p tt
    go false p =
        rw p
        (ltb-true (state_at t (cell_controller f) (field f 5)) t.state_count
        (and_left (is_state_name t (cell_controller f) (field f 5)) (all_messages t (sent_fields f)) (rw p at h)))

-- messages that are all declared
sent-below : (t : Tables) (xs : List (List ℕ)) → all_messages t xs ≡ true → (b : ℕ) → b ∈ map number (map (message_no t) xs) → b < t.message_count
unfolding all_messages
sent-below t [] h b m = absurd m
sent-below t (x ∷ xs) h b m =
    ⊎_elim
    (λ (q : b ≡ message_at t x). let k = ltb-true (message_at t x) t.message_count (and_left (is_message t x) (all_messages t xs) h) in omega arith)
    (λ (q : b ∈ map number (map (message_no t) xs)). sent-below t xs (and_right (is_message t x) (all_messages t xs) h) b q) m

-- the numbers that the stored cell sends are those of its fields
stored : (t : Tables) (f : Line) → numbers_of (cell_of t f) ≡ map number (map (message_no t) (sent_fields f))
unfolding cell_of sent_of_lem numbers_of
stored t f =
    ap (map number)
    (take_at (map (message_no t) (sent_fields f)) (replicate (8 - length (sent_fields f)) (record { 0 = 0 })) (length (sent_fields f)) (length-map (sent_fields f) (message_no t)))

-- the messages of a shaped line are at most eight, and all are known
sent-known : (t : Tables) (f : Line) → shaped cell f ≡ true
    → (says f 4 stall_word || (is_state_name t (cell_controller f) (field f 5) && all_messages t (sent_fields f))) ≡ true
    → (length (sent_fields f) ≤ 8) × (all_messages t (sent_fields f) ≡ true)
unfolding all_messages
sent-known t f h k =
    ⊎_elim
    (λ (s : StallLine f (cell_controller f)).
    let none : sent_fields f ≡ [] = drop_of_length-le f {i = 6} (let q : length f ≤ 6 = omega (arith, s.long) in q) in
    (omega (arith, ap length none), ap (all_messages t) none))
    (λ (s : GoLine f (cell_controller f)). (
      omega (arith, length-drop 6 f, s.few),
      and_right (is_state_name t (cell_controller f) (field f 5)) (all_messages t (sent_fields f)) (rw s.word at k),
    ))
    (shaped-way f h)

pub cell-of-ok : (t : Tables) (f : Line) → (line_reason cell t f).number ≡ 0 → CellOk t.message_count t.event_count t.state_count (cell_of t f)
unfolding cell_of
cell-of-ok t f e =
    let k = was-known t f e in
    let rest = says f 4 stall_word || (is_state_name t (cell_controller f) (field f 5) && all_messages t (sent_fields f)) in
    let own = and_left (is_state_name t (cell_controller f) (field f 2)) (is_trigger t (cell_controller f) (field f 3) && rest) k in
    let on = and_right (is_state_name t (cell_controller f) (field f 2)) (is_trigger t (cell_controller f) (field f 3) && rest) k in
    let to = and_right (is_trigger t (cell_controller f) (field f 3)) rest on in
    let s = sent-known t f (was-shaped t f e) to in
    record {
      few = s.0;
      own = ltb-true (state_at t (cell_controller f) (field f 2)) t.state_count own;
      trigger = trigger-ok t f (field f 3) (and_left (is_trigger t (cell_controller f) (field f 3)) rest on);
      next = next-ok t f to;
      sent = λ b m. sent-below t (sent_fields f) s.1 b (rw (stored t f) at m);
    }

-- the cell that a line was told to stand for
pub cell-ok : (k : ℕ) (line : List ℕ) (t : Tables) (c : Cell) → says (split 9 line) 0 cell_word ≡ true → CellTold k line t (Ok c)
    → CellOk t.message_count t.event_count t.state_count c
cell-ok k line t c first r =
    let f = split 9 line in
    let n : (line_reason cell t f).number ≡ 0 =
    sym (tells-number (line_reason cell t f) k) ∙ one_number (sym (refuses line t cell (line_reason cell t f) k (a-cell f first) refl) ∙ r.told) in
    rw r.cell (cell-of-ok t f n)
