-- How a line of a protocol text is refused: the rows 4 to 11 of the refusal table, in the order of their numbers, and the field that each tells.
use Rattle.std.specs.Prelude.{ℕ, suc, ◌+◌, Bool, true, false, not, ◌&&◌, ◌||◌, cond, List, [], ◌∷◌, ◌++◌, length, get_or, eqb, ltb, leb}
use Rattle.text.specs.Name.{name_rule}
use Rattle.text.specs.Words.{stall_word, go_word}
use Rattle.papers.specs.declared.Refusal.{Refusal}
use Rattle.papers.specs.Checks.{Check, check, field_check, first_of}
use Rattle.papers.specs.Fields.{Looked, looked, first_bad_field}
use Rattle.tables.specs.declared.Controller.{Controller}
use Rattle.tables.specs.declared.Controller.TheVariants.{Cache, Dir}
use Rattle.tables.specs.declared.Stability.{Stability}
use Rattle.tables.specs.declared.Stability.TheVariants.{Stable, Transient}
use Rattle.tables.specs.declared.Tables.{Tables}
use Rattle.tables.specs.Tables.{stored_of, states_of, no_state_row}
use Rattle.tables.specs.Clash.{any_clash_lem}
use Rattle.tables.specs.names.Names.{is_message, is_event, is_state_name, state_at}
use Rattle.text.specs.Line.{Line, field, says}
use Rattle.lines.specs.Line.{Section, message, event, state, cell, unknown, section_of, is_kind, is_controller, controller_of, is_stability, cell_controller, sent_fields, cell_of}

-- ---- 4 SHAPE: "unknown record, field count, or fixed word"

-- `cell` controller state trigger `stall`, five fields
abbrev pub stall_shape : Line → Bool
stall_shape f = eqb (length f) 5 && says f 4 stall_word

-- `cell` controller state trigger `go` next, followed by 0 to 8 messages sent
abbrev pub go_shape : Line → Bool
go_shape f = (leb 6 (length f) && leb (length f) 14) && says f 4 go_word

abbrev pub shaped : Section → Line → Bool
shaped message f = eqb (length f) 3 && is_kind (field f 2)
shaped event f = eqb (length f) 2
shaped state f = eqb (length f) 4 && (is_controller (field f 1) && is_stability (field f 3))
shaped cell f = is_controller (field f 1) && (stall_shape f || go_shape f)
shaped unknown f = false

-- C-14: "SHAPE tells the first unknown or wrong fixed word, and 0 if only the count is wrong." A fixed word that is missing because the line is
-- short is no wrong word.
abbrev pub wrong_word : Line → ℕ → Bool → Bool
wrong_word f i right = ltb i (length f) && not right

-- The fixed words of a line, in the order of the fields; an unknown record word is wrong.
abbrev pub fixed_words : Section → Line → List Looked
fixed_words message f = looked 3 (wrong_word f 2 (is_kind (field f 2))) ∷ []
fixed_words event f = []
fixed_words state f = looked 2 (wrong_word f 1 (is_controller (field f 1))) ∷ looked 4 (wrong_word f 3 (is_stability (field f 3))) ∷ []
fixed_words cell f = looked 2 (wrong_word f 1 (is_controller (field f 1))) ∷ looked 5 (wrong_word f 4 (says f 4 stall_word || says f 4 go_word)) ∷ []
fixed_words unknown f = looked 1 true ∷ []

abbrev pub shape_field : Section → Line → ℕ
shape_field s f = first_bad_field (fixed_words s f)

-- ---- 5 ORDER: "record of an earlier section than one already read"

abbrev pub later_read : Section → Tables → Bool
later_read message t = ltb 0 (t.event_count + t.state_count + t.cell_count)
later_read event t = ltb 0 (t.state_count + t.cell_count)
later_read state t = ltb 0 t.cell_count
later_read cell t = false
later_read unknown t = false

-- ---- 6 NAME: "declared name breaks the name rule"

abbrev pub bad_name : Section → Line → Bool
bad_name message f = not (name_rule (field f 1))
bad_name event f = not (name_rule (field f 1))
bad_name state f = not (name_rule (field f 2))
bad_name cell f = false
bad_name unknown f = false

-- The field of the declared name: NAME and TWICE tell it.
abbrev pub name_field : Section → ℕ
name_field message = 2
name_field event = 2
name_field state = 3
name_field cell = 0
name_field unknown = 0

-- ---- 7 UNKNOWN: "state, trigger, next or sent message not declared, or not allowed there"

abbrev pub is_cache : Controller → Bool
is_cache Cache = true
is_cache Dir = false

-- "A trigger is a message, or on `cache` also an event."
abbrev pub is_trigger : Tables → Controller → List ℕ → Bool
is_trigger t c x = is_message t x || (is_cache c && is_event t x)

unfoldable pub all_messages : Tables → List (List ℕ) → Bool
all_messages t [] = true
all_messages t (x ∷ xs) = is_message t x && all_messages t xs

-- "Next is a state of the same controller."
abbrev pub known_cell : Tables → Line → Bool
known_cell t f =
    is_state_name t (cell_controller f) (field f 2)
    && (is_trigger t (cell_controller f) (field f 3)
    && (says f 4 stall_word || (is_state_name t (cell_controller f) (field f 5) && all_messages t (sent_fields f))))

abbrev pub is_not_known : Section → Tables → Line → Bool
is_not_known message t f = false
is_not_known event t f = false
is_not_known state t f = false
is_not_known cell t f = not (known_cell t f)
is_not_known unknown t f = false

-- C-14: the names of a cell's line, in the order of the fields. "With several bad fields of the same refusal, the first is told."
unfoldable pub sent_names : Tables → ℕ → List (List ℕ) → List Looked
sent_names t k [] = []
sent_names t k (x ∷ xs) = looked k (not (is_message t x)) ∷ sent_names t (suc k) xs

abbrev pub go_names : Tables → Controller → Line → List Looked
go_names t c f = looked 6 (not (is_state_name t c (field f 5))) ∷ sent_names t 7 (sent_fields f)

abbrev pub place_names : Tables → Controller → Line → List Looked
place_names t c f = looked 3 (not (is_state_name t c (field f 2))) ∷ looked 4 (not (is_trigger t c (field f 3))) ∷ []

abbrev pub cell_names : Tables → Line → List Looked
cell_names t f = place_names t (cell_controller f) f ++ cond (says f 4 stall_word) [] (go_names t (cell_controller f) f)

abbrev pub unknown_field : Section → Tables → Line → ℕ
unknown_field message t f = 0
unknown_field event t f = 0
unknown_field state t f = 0
unknown_field cell t f = first_bad_field (cell_names t f)
unknown_field unknown t f = 0

-- ---- 8 TWICE: "name already declared". "Messages and events share one name space; states have one for each controller."

abbrev pub twice : Section → Tables → Line → Bool
twice message t f = is_message t (field f 1) || is_event t (field f 1)
twice event t f = is_message t (field f 1) || is_event t (field f 1)
twice state t f = is_state_name t (controller_of (field f 1)) (field f 2)
twice cell t f = false
twice unknown t f = false

-- ---- 9 FULL: "one more than a limit". "32 messages, 8 events, 64 states over both controllers, 512 cells."; by C-15 "raise messages to 64".

abbrev pub full : Section → Tables → Bool
full message t = leb 64 t.message_count
full event t = leb 8 t.event_count
full state t = leb 64 t.state_count
full cell t = leb 512 t.cell_count
full unknown t = false

-- ---- 10 STALL_STABLE: "`stall` in a stable state"

abbrev pub is_stable : Stability → Bool
is_stable Stable = true
is_stable Transient = false

-- The state of the cell is a stable one.
unfoldable pub in_stable_lem : Tables → Line → Bool
in_stable_lem t f = is_stable (get_or (states_of t) (state_at t (cell_controller f) (field f 2)) no_state_row).stability

abbrev pub stall_in_stable : Section → Tables → Line → Bool
stall_in_stable message t f = false
stall_in_stable event t f = false
stall_in_stable state t f = false
stall_in_stable cell t f = says f 4 stall_word && in_stable_lem t f
stall_in_stable unknown t f = false

-- ---- 11 CONFLICT: "an earlier cell has the same controller, state and trigger, and at least one of the two is `stall`"

abbrev pub conflict : Section → Tables → Line → Bool
conflict message t f = false
conflict event t f = false
conflict state t f = false
conflict cell t f = any_clash_lem (cell_of t f) (stored_of t)
conflict unknown t f = false

-- ---- the line's checks: "the first bad line, and within it the smallest number"

abbrev pub section_checks : Section → Tables → ℕ → Line → List Check
section_checks s t k f =
    field_check 4 k (shape_field s f) (not (shaped s f))
    ∷ check 5 k (later_read s t)
    ∷ field_check 6 k (name_field s) (bad_name s f)
    ∷ field_check 7 k (unknown_field s t f) (is_not_known s t f)
    ∷ field_check 8 k (name_field s) (twice s t f)
    ∷ check 9 k (full s t)
    ∷ check 10 k (stall_in_stable s t f)
    ∷ check 11 k (conflict s t f)
    ∷ []

-- Line k is f, and t has been read from the lines before it.
abbrev pub line_checks : Tables → ℕ → Line → List Check
line_checks t k f = section_checks (section_of f) t k f

unfoldable pub line_refusal : Tables → ℕ → Line → Refusal
line_refusal t k f = first_of (line_checks t k f)
