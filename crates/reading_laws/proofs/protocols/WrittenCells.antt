-- The fields of a cell's line that passes its checks are those of the cell that it stands for: each name is found at its number.
use Prim.Native.Nat.{ℕ, ◌-◌, ◌≤◌}
use mathlib.Core.Path.{◌≡◌, refl, sym, ap, ap₂, ◌∙◌}
use mathlib.Core.Bool.{Bool, true, false, ◌&&◌, ◌||◌, cond}
use mathlib.Core.List.{List, [], ◌∷◌, map}
use native.Mathlib.Omega.{arith}
use lib.ListN.{length, get_or, take, drop, replicate, length-map, drop_of_length-le}
use lib.Seq.{drop-cons, take_at}
use lib.Dec.{eqb, leb}
use borrow.Author.Tests.{eqb-true, leb-true}
use Rattle.text.specs.Parts.{is_same_text}
use Rattle.text.specs.Name.{name_text}
use Rattle.text.specs.Words.{cell_word, stall_word, go_word}
use Rattle.text.proofs.Parts.{same_true}
use Rattle.tables.specs.declared.Controller.{Controller}
use Rattle.tables.specs.declared.Controller.TheVariants.{Cache, Dir}
use Rattle.tables.specs.declared.Trigger.TheVariants.{Message as OnMessage, Event as OnEvent}
use Rattle.tables.specs.declared.Outcome.TheVariants.{Stall, Go}
use Rattle.tables.specs.declared.Tables.{Tables}
use Rattle.tables.specs.Tables.{no_message_row, no_event_row, no_state_row}
use Rattle.tables.specs.names.Names.{same_controller_lem, message_at, event_at_lem, state_at, is_message, is_event, is_state_name}
use Rattle.tables.proofs.names.Declared.{message-declared, event-declared, state-declared}
use Rattle.text.specs.Line.{Line, field, says}
use Rattle.lines.specs.Line.{cell, section_of, is_controller, cell_controller, message_no, trigger_of, outcome_of, sent_fields, sent_of_lem, cell_of}
use Rattle.lines.specs.Checks.{shaped, stall_shape, go_shape, is_cache, is_trigger, all_messages, known_cell}
use Rattle.lines.proofs.Sections.{other_word}
use Rattle.lines.proofs.Both.{and_left, and_right}
use Rattle.reading_laws.specs.protocols.Written.{controller_word, message_name_lem, state_row, trigger_name, outcome_fields, cell_fields}
use Rattle.lines.proofs.Sections.{not_in}
use Rattle.reading_laws.proofs.protocols.WrittenFields.{first_word, controller-word}

-- The tables have room for all that is counted.
pub record Sized (t : Tables) : Type 0 where
  pub messages : length t.messages ≡ 64
  pub events : length t.events ≡ 8
  pub states : length t.states ≡ 64
  pub cells : length t.cells ≡ 512
  pub few_messages : t.message_count ≤ 64
  pub few_events : t.event_count ≤ 8
  pub few_states : t.state_count ≤ 64

same-controller : (a b : Controller) → same_controller_lem a b ≡ true → a ≡ b
same-controller Cache Cache e = refl
same-controller Cache Dir e = absurd (let z : ◌≡◌ {A = ℕ} 0 1 = cc in omega arith)
same-controller Dir Cache e = absurd (let z : ◌≡◌ {A = ℕ} 0 1 = cc in omega arith)
same-controller Dir Dir e = refl

module _ (t : Tables) (z : Sized t) where
  -- ---- the row at a name's number has the name

  message-name : (x : List ℕ) → is_message t x ≡ true → message_name_lem t (message_no t x) ≡ x
  message-name x e =
      same_true (message_name_lem t (message_no t x)) x (message-declared t x no_message_row (omega (arith, z.messages, z.few_messages)) e).passes

  event-name : (x : List ℕ) → is_event t x ≡ true → name_text (get_or t.events (event_at_lem t x) no_event_row).name ≡ x
  event-name x e =
      same_true (name_text (get_or t.events (event_at_lem t x) no_event_row).name) x (event-declared t x no_event_row (omega (arith, z.events, z.few_events)) e).passes

  module _ (c : Controller) (x : List ℕ) (e : is_state_name t c x ≡ true) where
    named : (same_controller_lem (state_row t (state_at t c x)).controller c && is_same_text (name_text (state_row t (state_at t c x)).name) x) ≡ true
    named = (state-declared t x c no_state_row (omega (arith, z.states, z.few_states)) e).passes

    state-whose : (state_row t (state_at t c x)).controller ≡ c
    state-whose =
        same-controller (state_row t (state_at t c x)).controller c
        (and_left (same_controller_lem (state_row t (state_at t c x)).controller c) (is_same_text (name_text (state_row t (state_at t c x)).name) x) named)

    state-name : name_text (state_row t (state_at t c x)).name ≡ x
    state-name =
        same_true (name_text (state_row t (state_at t c x)).name) x
        (and_right (same_controller_lem (state_row t (state_at t c x)).controller c) (is_same_text (name_text (state_row t (state_at t c x)).name) x) named)

  trigger-name : (c : Controller) (x : List ℕ) → is_trigger t c x ≡ true → trigger_name t (trigger_of t x) ≡ x
  trigger-name c x e = go (is_message t x) (message-name x) e
    where
      go : (b : Bool) → (b ≡ true → message_name_lem t (message_no t x) ≡ x) → (b || (is_cache c && is_event t x)) ≡ true
          → trigger_name t (cond b (OnMessage (record { 0 = message_at t x })) (OnEvent (record { 0 = event_at_lem t x }))) ≡ x
      go true p q = p refl
      go false p q = event-name x (and_right (is_cache c) (is_event t x) q)

  sent-names : (xs : Line) → all_messages t xs ≡ true → map (message_name_lem t) (map (message_no t) xs) ≡ xs
  unfolding all_messages
  sent-names [] e = refl
  sent-names (x ∷ xs) e =
      ap₂ (λ (y : List ℕ) (ys : Line). y ∷ ys) (message-name x (and_left (is_message t x) (all_messages t xs) e))
      (sent-names xs (and_right (is_message t x) (all_messages t xs) e))

  module _ (f : Line) where
    -- what is sent, without what stands behind it
    sent : take (length (sent_fields f)) (sent_of_lem t f) ≡ map (message_no t) (sent_fields f)
    unfolding sent_of_lem
    sent = take_at (map (message_no t) (sent_fields f)) (replicate (8 - length (sent_fields f)) (record { 0 = 0 })) (length (sent_fields f)) (length-map (sent_fields f) (message_no t))

    -- ---- the outcome

    stalls : stall_shape f ≡ true → outcome_fields t (outcome_of t f) (take (length (sent_fields f)) (sent_of_lem t f)) ≡ drop 4 f
    stalls h =
        let n = eqb-true (length f) 5 (and_left (eqb (length f) 5) (says f 4 stall_word) h) in
        let s = and_right (eqb (length f) 5) (says f 4 stall_word) h in
        let w = same_true (field f 4) stall_word s in
        let f4 = drop-cons f 4 [] (omega arith) in
        let f5 = drop_of_length-le f {i = 5} (omega arith) in
        ap (λ (b : Bool). outcome_fields t (cond b Stall (Go (record { 0 = state_at t (cell_controller f) (field f 5) }))) (take (length (sent_fields f)) (sent_of_lem t f))) s
        ∙ cc

    goes : go_shape f ≡ true → (says f 4 stall_word || (is_state_name t (cell_controller f) (field f 5) && all_messages t (sent_fields f))) ≡ true
        → outcome_fields t (outcome_of t f) (take (length (sent_fields f)) (sent_of_lem t f)) ≡ drop 4 f
    unfolding is_same_text
    goes h k =
        let m = and_left (leb 6 (length f) && leb (length f) 14) (says f 4 go_word) h in
        let n = leb-true 6 (length f) (and_left (leb 6 (length f)) (leb (length f) 14) m) in
        let g = and_right (leb 6 (length f) && leb (length f) 14) (says f 4 go_word) h in
        let w = same_true (field f 4) go_word g in
        let s : says f 4 stall_word ≡ false = other_word (field f 4) go_word stall_word g refl in
        let known : (is_state_name t (cell_controller f) (field f 5) && all_messages t (sent_fields f)) ≡ true =
        ap (λ (b : Bool). b || (is_state_name t (cell_controller f) (field f 5) && all_messages t (sent_fields f))) (sym s) ∙ k in
        let next = state-name (cell_controller f) (field f 5) (and_left (is_state_name t (cell_controller f) (field f 5)) (all_messages t (sent_fields f)) known) in
        let names = ap (map (message_name_lem t)) sent ∙ sent-names (sent_fields f) (and_right (is_state_name t (cell_controller f) (field f 5)) (all_messages t (sent_fields f)) known) in
        let f4 = drop-cons f 4 [] (omega arith) in
        let f5 = drop-cons f 5 [] (omega arith) in
        ap (λ (b : Bool). outcome_fields t (cond b Stall (Go (record { 0 = state_at t (cell_controller f) (field f 5) }))) (take (length (sent_fields f)) (sent_of_lem t f))) s
        ∙ cc

    long : (stall_shape f || go_shape f) ≡ true → 5 ≤ length f
    long h = go (stall_shape f) refl
      where
        go : (b : Bool) → stall_shape f ≡ b → 5 ≤ length f
        go true e = omega (arith, eqb-true (length f) 5 (and_left (eqb (length f) 5) (says f 4 stall_word) e))
        go false e =
            let g : go_shape f ≡ true = ap (λ (b : Bool). b || go_shape f) (sym e) ∙ h in
            omega (arith, leb-true 6 (length f) (and_left (leb 6 (length f)) (leb (length f) 14) (and_left (leb 6 (length f) && leb (length f) 14) (says f 4 go_word) g)))

    outcome-fields : (stall_shape f || go_shape f) ≡ true → (says f 4 stall_word || (is_state_name t (cell_controller f) (field f 5) && all_messages t (sent_fields f))) ≡ true
        → outcome_fields t (outcome_of t f) (take (length (sent_fields f)) (sent_of_lem t f)) ≡ drop 4 f
    outcome-fields h k = go (stall_shape f) refl
      where
        go : (b : Bool) → stall_shape f ≡ b → outcome_fields t (outcome_of t f) (take (length (sent_fields f)) (sent_of_lem t f)) ≡ drop 4 f
        go true e = stalls e
        go false e = goes (ap (λ (b : Bool). b || go_shape f) (sym e) ∙ h) k

    -- ---- the whole line

    pub cell-fields : section_of f ≡ cell → shaped cell f ≡ true → known_cell t f ≡ true → cell_fields t (cell_of t f) ≡ f
    unfolding cell_fields cell_of
    cell-fields e h k =
        let shape = and_right (is_controller (field f 1)) (stall_shape f || go_shape f) h in
        let n = long shape in
        let rest = says f 4 stall_word || (is_state_name t (cell_controller f) (field f 5) && all_messages t (sent_fields f)) in
        let own = and_left (is_state_name t (cell_controller f) (field f 2)) (is_trigger t (cell_controller f) (field f 3) && rest) k in
        let on = and_right (is_state_name t (cell_controller f) (field f 2)) (is_trigger t (cell_controller f) (field f 3) && rest) k in
        let w = first_word f cell_word cell (not_in cell f) e in
        let whose = ap controller_word (state-whose (cell_controller f) (field f 2) own) ∙ controller-word (field f 1) (and_left (is_controller (field f 1)) (stall_shape f || go_shape f) h) in
        let name = state-name (cell_controller f) (field f 2) own in
        let by = trigger-name (cell_controller f) (field f 3) (and_left (is_trigger t (cell_controller f) (field f 3)) rest on) in
        let out = outcome-fields shape (and_right (is_trigger t (cell_controller f) (field f 3)) rest on) in
        let f0 = drop-cons f 0 [] (omega arith) in
        let f1 = drop-cons f 1 [] (omega arith) in
        let f2 = drop-cons f 2 [] (omega arith) in
        let f3 = drop-cons f 3 [] (omega arith) in
        cc
