-- The numbers and lines that the two readings tell.
use Prim.Native.Nat.{ℕ, suc, ◌+◌, ◌≤◌, ◌<◌}
use mathlib.Core.Path.{◌≡◌, refl, sym, subst}
use mathlib.Core.Bool.{Bool, true, false, not, cond}
use mathlib.Core.List.{List, [], ◌∷◌, ◌++◌}
use mathlib.Core.Logic.{◌⊎◌, inl, inr, ⊎_elim}
use native.Mathlib.Omega.{arith}
use lib.ListN.{length, drop, length-map, length-take}
use lib.Dec.{eqb, ltb}
use borrow.Author.Tests.{ltb-true, ltb-false}
use Rattle.text.specs.Parts.{split, lines}
use Rattle.text.specs.Words.{protocol_header, map_word}
use Rattle.text.proofs.Parts.{first-le}
use Rattle.papers.specs.declared.Refusal.{Refusal}
use Rattle.papers.specs.Checks.{first_of}
use Rattle.papers.specs.Fields.{first_bad_field}
use Rattle.papers.specs.Opening.{opening_of}
use Rattle.papers.proofs.OpeningLaws.{too_big}
use Rattle.tables.specs.declared.MessageRow.{MessageRow}
use Rattle.tables.specs.declared.Tables.{Tables}
use Rattle.tables.specs.Tables.{cleared_tables, stored_of, with_message, with_event, with_state, with_cell}
use Rattle.tables.specs.Cells.{cells_of, transient_of, as_rule_cell}
use Rattle.text.specs.Line.{Line, field, says}
use Rattle.lines.specs.Line.{Section, message, event, state, cell, unknown, section_of}
use Rattle.lines.specs.Checks.{section_checks, line_checks, line_refusal}
use Rattle.mapping.specs.Mapped.{Mapped}
use Rattle.mapping.specs.Headers.{header_of}
use Rattle.mapping.specs.Reading.{maps_unless, end_of, read_maps, read_mapping_lem}
use Rattle.mapping.specs.networks.Networks.{network_of_lem}
use Rattle.mapping.specs.lines.Line.{match_field, map_checks, map_refusal}
use Rattle.protocol.specs.whole.Whole.{Reading}
use Rattle.protocol.specs.sections.Lines.{read_lines, stored_in, stored}
use Rattle.protocol.specs.Reading.{read_protocol_lem}
use Rattle.protocol.specs.whole.Whole.{unless, accepted, whole_checks, whole_refusal, no_entry_at, has_no_entry}
use Rattle.reading_laws.specs.bounds.Bounds.{Low, ProtocolLow, MappingLow}
use Rattle.lines.proofs.FieldTold.{first-fields, field-low}
use Rattle.reading_laws.proofs.bounds.Told.{AllLow, first-low, lines-le, opening-low}

-- ---- the protocol

abbrev LowReading : Reading → Type 0
LowReading r = Low r.refusal

unless-low : (r : Refusal) (a : Reading) → Low r → LowReading a → LowReading (unless r a)
unless-low r a h k = go (eqb r.number 0) refl
  where
    go : (t : Bool) → eqb r.number 0 ≡ t → LowReading (unless r a)
    go true e = rw e k
    go false e = rw e h

-- the records that were read
abbrev total : Tables → ℕ
total t = t.message_count + t.event_count + t.state_count + t.cell_count

entry-le : (t : Tables) → no_entry_at t ≤ t.cell_count
unfolding no_entry_at cells_of
entry-le t = omega (arith, first-le (has_no_entry (transient_of t) (cells_of t)) (cells_of t), length-map (stored_of t) as_rule_cell, length-take t.cell_count t.cells)

stored-total : (s : Section) (t : Tables) (f : Line) → total (stored_in s t f) ≤ suc (total t)
unfolding with_message with_event with_state with_cell
stored-total message t f = omega arith
stored-total event t f = omega arith
stored-total state t f = omega arith
stored-total cell t f = omega arith
stored-total unknown t f = omega arith

-- the checks of a line tell that line
line_low : (s : Section) (t : Tables) (k : ℕ) (f : Line) → k ≤ 49153 → AllLow (section_checks s t k f)
line_low s t k f h =
    ((omega arith, h), ((omega arith, h), ((omega arith, h), ((omega arith, h), ((omega arith, h), ((omega arith, h), ((omega arith, h), ((omega arith, h), tt))))))))

lines-low : (k : ℕ) (ls : List (List ℕ)) (t : Tables) → k + length ls ≤ 49153 → 2 + total t + length ls ≤ 49153 → LowReading (read_lines k ls t)
unfolding read_lines whole_refusal line_refusal
lines-low k [] t h g =
    unless-low (whole_refusal t) (accepted t)
    (first-low (whole_checks t) ((omega arith, omega arith), ((omega arith, omega (arith, entry-le t, g)), tt)) (first-fields 14 (whole_checks t) (omega arith, (omega arith, tt)))) (omega arith, omega arith, omega arith)
lines-low k (l ∷ ls) t h g =
    unless-low (line_refusal t k (split 9 l)) (read_lines (suc k) ls (stored t (split 9 l)))
    (first-low (line_checks t k (split 9 l)) (line_low (section_of (split 9 l)) t k (split 9 l) (omega (arith, h))) (field-low t k (split 9 l)))
    (lines-low (suc k) ls (stored t (split 9 l)) (omega (arith, h)) (omega (arith, g, stored-total (section_of (split 9 l)) t (split 9 l))))

fits-or-not : (n : ℕ) → (n ≤ 49152) ⊎ (49152 < n)
fits-or-not n = go (ltb 49152 n) refl
  where
    go : (t : Bool) → ltb 49152 n ≡ t → (n ≤ 49152) ⊎ (49152 < n)
    go true e = inr (ltb-true 49152 n e)
    go false e = inl (ltb-false 49152 n e)

pub protocol-low : ProtocolLow
unfolding read_protocol_lem cleared_tables
protocol-low text = ⊎_elim small big (fits-or-not (length text))
  where
    body : Reading
    body = read_lines 2 (drop 1 (lines text)) cleared_tables

    small : length text ≤ 49152 → LowReading (read_protocol_lem text)
    small h =
        unless-low (opening_of protocol_header text) body (opening-low protocol_header text h)
        (lines-low 2 (drop 1 (lines text)) cleared_tables (omega (arith, lines-le text, h)) (omega (arith, lines-le text, h)))

    big : 49152 < length text → LowReading (read_protocol_lem text)
    big h = subst (λ (r : Refusal). LowReading (unless r body)) (sym (too_big protocol_header text h)) (omega arith, omega arith, omega arith)

-- ---- the mapping

abbrev LowMapped : Mapped → Type 0
LowMapped r = Low r.refusal

mapped-low : (r : Refusal) (a : Mapped) → Low r → LowMapped a → LowMapped (maps_unless r a)
mapped-low r a h k = go (eqb r.number 0) refl
  where
    go : (t : Bool) → eqb r.number 0 ≡ t → LowMapped (maps_unless r a)
    go true e = rw e k
    go false e = rw e h

end_low : (k : ℕ) (next : List MessageRow) (ns : List ℕ) → k ≤ 49153 → LowMapped (end_of next k ns)
end_low k [] ns h = (omega arith, omega arith, omega arith)
end_low k (m ∷ next) ns h = (omega arith, h, omega arith)

match-few : (next : List MessageRow) → match_field next ≤ 14
match-few [] = omega arith
match-few (m ∷ next) = omega arith

map-field : (most above : ℕ) (next : List MessageRow) (k : ℕ) (f : Line) → (first_of (map_checks most above next k f)).field ≤ 14
unfolding first_bad_field
map-field most above next k f = first-fields 14 (map_checks most above next k f) (word (not (says f 0 map_word)), (omega arith, (match-few next, (omega arith, tt))))
  where
    word : (b : Bool) → cond b 1 0 ≤ 14
    word true = omega arith
    word false = omega arith

maps-low : (most k : ℕ) (ls : List (List ℕ)) (next : List MessageRow) (ns : List ℕ) → k + length ls ≤ 49153 → LowMapped (read_maps most k ls next ns)
unfolding read_maps map_refusal
maps-low most k [] next ns h = end_low k next ns (omega (arith, h))
maps-low most k (l ∷ ls) next ns h =
    let here : k ≤ 49153 = omega (arith, h) in
    mapped-low (map_refusal most (length ns) next k (split 9 l)) (read_maps most (suc k) ls (drop 1 next) (ns ++ (network_of_lem most (field (split 9 l) 2) ∷ [])))
    (first-low (map_checks most (length ns) next k (split 9 l)) ((omega arith, here), ((omega arith, here), ((omega arith, here), ((omega arith, here), tt)))) (map-field most (length ns) next k (split 9 l)))
    (maps-low most (suc k) ls (drop 1 next) (ns ++ (network_of_lem most (field (split 9 l) 2) ∷ [])) (omega (arith, h)))

pub mapping-low : MappingLow
unfolding read_mapping_lem
mapping-low messages text = ⊎_elim small big (fits-or-not (length text))
  where
    line : List ℕ
    line = (header_of text).line

    body : Mapped
    body = read_maps (header_of text).most 2 (drop 1 (lines text)) messages []

    small : length text ≤ 49152 → LowMapped (read_mapping_lem messages text)
    small h =
        mapped-low (opening_of line text) body (opening-low line text h)
        (maps-low (header_of text).most 2 (drop 1 (lines text)) messages [] (omega (arith, lines-le text, h)))

    big : 49152 < length text → LowMapped (read_mapping_lem messages text)
    big h = subst (λ (r : Refusal). LowMapped (maps_unless r body)) (sym (too_big line text h)) (omega arith, omega arith, omega arith)
