-- The names of an accepted text's messages.
use Prim.Native.Nat.{ℕ, zero, suc, ◌+◌, ◌≤◌, ◌<◌}
use mathlib.Core.Path.{◌≡◌, refl, sym, ap, ◌∙◌, subst}
use mathlib.Core.Bool.{Bool, true, false}
use mathlib.Core.List.{List, [], ◌∷◌}
use native.Mathlib.Omega.{arith}
use lib.ListN.{length, get_or, set, drop, replicate, length-set, length-replicate}
use lib.Seq.{get_or-set_same, get_or-set_other}
use lib.Dec.{eqb}
use borrow.Author.Tests.{leb-false, eqb-true, eqb-false, not-false}
use Rattle.text.specs.Parts.{split, lines}
use Rattle.text.specs.Name.{name_rule, name_text}
use Rattle.text.specs.Words.{protocol_header}
use Rattle.text.proofs.NameLaws.{name-text, rule-length}
use Rattle.papers.specs.Opening.{opening_of}
use Rattle.tables.specs.declared.MessageRow.{MessageRow}
use Rattle.tables.specs.declared.Tables.{Tables}
use Rattle.tables.specs.Tables.{no_message_row, cleared_tables, with_message, with_event, with_state, with_cell}
use Rattle.text.specs.Line.{Line, field}
use Rattle.lines.specs.Line.{Section, message, event, state, cell, unknown, section_of, message_of}
use Rattle.lines.specs.Checks.{bad_name, full, line_refusal}
use Rattle.protocol.specs.whole.Whole.{Reading}
use Rattle.protocol.specs.sections.Lines.{read_lines, stored_in, stored}
use Rattle.protocol.specs.Reading.{read_protocol_lem}
use Rattle.protocol.specs.whole.Whole.{accepted, whole_refusal}
use Rattle.protocol.proofs.sections.Passed.{passed}
use Rattle.reading_laws.proofs.protocols.SameText.{unless-number}
use Rattle.reading_laws.specs.bounds.Bounds.{Named, NamesKept}

-- ---- names

named-cleared : Named cleared_tables
unfolding cleared_tables
named-cleared = record { long = length-replicate 64 no_message_row; short = no_name 64; names = λ i h. absurd (omega (arith, h)) }
  where
    no_name : (n i : ℕ) → length (name_text (get_or (replicate n no_message_row) i no_message_row).name) ≤ 24
    no_name zero i = omega (arith, ap length (name-text []))
    no_name (suc n) zero = omega (arith, ap length (name-text []))
    no_name (suc n) (suc i) = no_name n i

name-here : (f : Line) → bad_name message f ≡ false → name_rule (name_text (message_of f).name) ≡ true
unfolding message_of
name-here f e = ap name_rule (name-text (field f 1)) ∙ not-false (name_rule (field f 1)) e

named-message : (t : Tables) (row : MessageRow) → Named t → t.message_count < 64 → name_rule (name_text row.name) ≡ true → Named (with_message t row)
unfolding with_message
named-message t row n h g =
    record {
      long = length-set t.messages t.message_count row ∙ n.long;
      short = λ i. short-at i (eqb i t.message_count) refl;
      names = λ i b. at i (eqb i t.message_count) refl b;
    }
  where
    short-at : (i : ℕ) (d : Bool) → eqb i t.message_count ≡ d
        → length (name_text (get_or (set t.messages t.message_count row) i no_message_row).name) ≤ 24
    short-at i true e =
        let q = eqb-true i t.message_count e in
        subst (λ (r : MessageRow). length (name_text r.name) ≤ 24)
        (sym (ap (λ (j : ℕ). get_or (set t.messages t.message_count row) j no_message_row) q
        ∙ get_or-set_same t.messages t.message_count row no_message_row (omega (arith, h, n.long))))
        (rule-length (name_text row.name) g).1
    short-at i false e =
        let q = eqb-false i t.message_count e in
        subst (λ (r : MessageRow). length (name_text r.name) ≤ 24) (sym (get_or-set_other t.messages t.message_count i row no_message_row q)) (n.short i)

    at : (i : ℕ) (d : Bool) → eqb i t.message_count ≡ d → i < t.message_count + 1
        → name_rule (name_text (get_or (set t.messages t.message_count row) i no_message_row).name) ≡ true
    at i true e b =
        let q = eqb-true i t.message_count e in
        ap (λ (r : MessageRow). name_rule (name_text r.name))
        (ap (λ (j : ℕ). get_or (set t.messages t.message_count row) j no_message_row) q
        ∙ get_or-set_same t.messages t.message_count row no_message_row (omega (arith, h, n.long)))
        ∙ g
    at i false e b =
        let q = eqb-false i t.message_count e in
        ap (λ (r : MessageRow). name_rule (name_text r.name)) (get_or-set_other t.messages t.message_count i row no_message_row q)
        ∙ n.names i (omega (arith, b, q))

named-stored : (s : Section) (t : Tables) (f : Line) → Named t → bad_name s f ≡ false → full s t ≡ false → Named (stored_in s t f)
unfolding with_event with_state with_cell
named-stored message t f n e g = named-message t (message_of f) n (omega (arith, leb-false 64 t.message_count g)) (name-here f e)
named-stored event t f n e g = record { long = n.long; short = n.short; names = n.names }
named-stored state t f n e g = record { long = n.long; short = n.short; names = n.names }
named-stored cell t f n e g = record { long = n.long; short = n.short; names = n.names }
named-stored unknown t f n e g = n

-- ---- the text

named-lines : (k : ℕ) (ls : List (List ℕ)) (t : Tables) → Named t → (read_lines k ls t).refusal.number ≡ 0 → Named (read_lines k ls t).tables
unfolding read_lines line_refusal
named-lines k [] t n e = subst (λ (r : Reading). Named r.tables) (sym (unless-number (whole_refusal t) (accepted t) e).1) n
named-lines k (l ∷ ls) t n e =
    let f = split 9 l in
    let q = unless-number (line_refusal t k f) (read_lines (suc k) ls (stored t f)) e in
    let p = passed (section_of f) t k f q.0 in
    subst (λ (r : Reading). Named r.tables) (sym q.1)
    (named-lines (suc k) ls (stored t f)
    (named-stored (section_of f) t f n p.name p.room)
    (ap (λ (r : Reading). r.refusal.number) (sym q.1) ∙ e))

pub names-kept : NamesKept
unfolding read_protocol_lem
names-kept text e =
    let body = read_lines 2 (drop 1 (lines text)) cleared_tables in
    let q = unless-number (opening_of protocol_header text) body e in
    let n = named-lines 2 (drop 1 (lines text)) cleared_tables named-cleared (ap (λ (r : Reading). r.refusal.number) (sym q.1) ∙ e) in
    subst (λ (r : Reading). Named r.tables) (sym q.1) n
