-- What an answer of the reader means: each refusal is given only under its row, and what is accepted are networks.
use Rattle.std.specs.Prelude.{ℕ, ◌+◌, ◌≤◌, ◌<◌, ◌≡◌, ◌⊎◌, List, [], ◌++◌, length, get_or, drop}
use Rattle.text.specs.Parts.{split, lines}
use Rattle.papers.specs.Checks.{refusal, ToldBy}
use Rattle.papers.specs.Opening.{opening_checks, opening_of, Opens}
use Rattle.tables.specs.declared.MessageRow.{MessageRow}
use Rattle.mapping.specs.Mapped.{Mapped}
use Rattle.mapping.specs.networks.Networks.{network_of_lem}
use Rattle.text.specs.Line.{Line, field}
use Rattle.mapping.specs.lines.Line.{map_checks, map_refusal}
use Rattle.mapping.specs.Headers.{header_of}
use Rattle.mapping.specs.Reading.{maps_accepted, maps_refused, read_mapping_lem}

-- The lines before place j give no refusal. The first of them is line k, and `above` lines stand between the header and it; the header allows `most`.
pub record MapsPassed (most above : ℕ) (next : List MessageRow) (k : ℕ) (ls : List (List ℕ)) (j : ℕ) : Type 0 where
  pub lines : (i : ℕ) → i < j → (map_refusal most (above + i) (drop i next) (k + i) (split 9 (get_or ls i []))).number ≡ 0

-- The first bad line, and its refusal.
pub record BadMap (most above : ℕ) (next : List MessageRow) (k : ℕ) (ls : List (List ℕ)) (r : Mapped) : Type 0 where
  pub place : ℕ
  pub below : place < length ls
  pub before : MapsPassed most above next k ls place
  pub bad : (map_refusal most (above + place) (drop place next) (k + place) (split 9 (get_or ls place []))).number ≡ 0 → ⊥
  pub is : r ≡ maps_refused (map_refusal most (above + place) (drop place next) (k + place) (split 9 (get_or ls place [])))

-- No line is bad, and a message has none: "the text ends early: last line + 1".
pub record MapsEndEarly (most above : ℕ) (next : List MessageRow) (k : ℕ) (ls : List (List ℕ)) (r : Mapped) : Type 0 where
  pub before : MapsPassed most above next k ls (length ls)
  pub short : length ls < length next
  pub is : r ≡ maps_refused (refusal 14 (k + length ls))

-- No line is bad, and each message has one, which gives its network.
pub record MapsAccepted (most above : ℕ) (next : List MessageRow) (k : ℕ) (ls : List (List ℕ)) (first : List ℕ) (r : Mapped) : Type 0 where
  pub before : MapsPassed most above next k ls (length ls)
  pub long : length ls ≡ length next
  pub ns : List ℕ
  pub count : length ns ≡ length next
  pub gives : (i : ℕ) → i < length ns → get_or ns i 0 ≡ network_of_lem most (field (split 9 (get_or ls i [])) 2)
  pub below : (i : ℕ) → i < length ns → get_or ns i 0 < most
  pub is : r ≡ maps_accepted (first ++ ns)

-- ---- the whole text

-- Refused before its lines are read, under the first of the three rows that is given.
pub record BadMapOpening (text : List ℕ) (r : Mapped) : Type 0 where
  pub told : ToldBy (opening_checks (header_of text).line text) (opening_of (header_of text).line text)
  pub is : r ≡ maps_refused (opening_of (header_of text).line text)

-- The answer of the lines, from line 2 on, under the text's header.
abbrev pub MapsAnswered : List MessageRow → List ℕ → Mapped → Type 0
MapsAnswered messages text r =
    let most = (header_of text).most in
    let ls = drop 1 (lines text) in
    MapsAccepted most 0 messages 2 ls [] r ⊎ (BadMap most 0 messages 2 ls r ⊎ MapsEndEarly most 0 messages 2 ls r)

-- Every answer is under its row, in the order of the paper.
abbrev pub MappingAnswered : Type 0
MappingAnswered = (messages : List MessageRow) (text : List ℕ) →
    BadMapOpening text (read_mapping_lem messages text) ⊎ (Opens (header_of text).line text × MapsAnswered messages text (read_mapping_lem messages text))

-- A mapping text that is not refused gives each message the network of its line.
abbrev pub MappingAccepted : Type 0
MappingAccepted = (messages : List MessageRow) (text : List ℕ) → (read_mapping_lem messages text).refusal.number ≡ 0 →
    MapsAccepted (header_of text).most 0 messages 2 (drop 1 (lines text)) [] (read_mapping_lem messages text)

-- The refusal of a bad line is that of the first of its rows that is given.
abbrev pub BadTold : Type 0
BadTold = (most above : ℕ) (next : List MessageRow) (k : ℕ) (ls : List (List ℕ)) (r : Mapped) (w : BadMap most above next k ls r) →
    ToldBy (map_checks most (above + w.place) (drop w.place next) (k + w.place) (split 9 (get_or ls w.place [])))
    (map_refusal most (above + w.place) (drop w.place next) (k + w.place) (split 9 (get_or ls w.place [])))

-- C-14: no field is told that the line has not.
abbrev pub MapFieldWithin : Type 0
MapFieldWithin = (most above : ℕ) (next : List MessageRow) (k : ℕ) (f : Line) → 0 < length f → (map_refusal most above next k f).field ≤ length f
