-- The mapping text that was written from networks reads back to exactly these networks.
use mathlib.Core.Path.{◌≡◌, refl, sym, ap, ◌∙◌}
use mathlib.Core.Bool.{true}
use mathlib.Core.List.{List, [], ◌∷◌, ◌++◌, append_assoc, append-nil}
use mathlib.Core.Logic.{⊎_elim}
use Prim.Native.Nat.{ℕ, suc, ◌+◌, ◌-◌, ◌*◌, ◌/◌, ◌%◌, ◌≤◌, ◌<◌}
use native.Mathlib.Omega.{arith}
use borrow.Author.Tests.{lt-ltb}
use lib.ListN.{length, get_or, drop, length-append}
use Rattle.text.specs.Parts.{how_many, split, lines}
use Rattle.text.specs.Name.{name_rule, name_text}
use Rattle.text.specs.Words.{mapping_header, mapping_header2, map_word, newline}
use Rattle.text.specs.Written.{decimal}
use Rattle.text.proofs.Parts.{same_refl}
use Rattle.text.proofs.NameLaws.{rule-length}
use Rattle.text.proofs.Written.{decimal-small}
use Rattle.papers.specs.declared.Refusal.{Refusal}
use Rattle.papers.specs.Checks.{none}
use Rattle.papers.specs.Opening.{opening_of}
use Rattle.papers.proofs.OpeningLaws.{opens, opened}
use Rattle.papers.proofs.Joined.{many-cons, many-append, split-none, split-join, lines_join, Ends, ends_join, name-lacks}
use Rattle.tables.specs.declared.MessageRow.{MessageRow}
use Rattle.text.specs.Line.{field}
use Rattle.mapping.specs.lines.Line.{map_refusal}
use Rattle.mapping.specs.networks.Networks.{network_of_lem}
use Rattle.mapping.specs.Headers.{Header, header1, header2, header_of}
use Rattle.mapping.specs.Reading.{maps_accepted, read_maps, read_mapping_lem}
use Rattle.mapping.specs.Text.{map_fields, map_texts, mapping_text, Writable}
use Rattle.mapping.proofs.networks.NetworkLaws.{low_or_high, two, network-found}
use Rattle.mapping.proofs.lines.LineLaws.{line-next, line-passes}
use Rattle.mapping.proofs.ReadLaws.{maps-more, reading-opened, is-first, is-second}

-- ---- a network in decimal

decimal-lacks : (b n : ℕ) → b < 48 → n < 100 → how_many b (decimal n) ≡ 0
unfolding how_many
decimal-lacks b n h k =
    ⊎_elim (λ (l : n < 10). ap (how_many b) (decimal-small n l) ∙ many-cons b (n + 48) [] (λ z. omega arith))
    (λ (l : 10 ≤ n). ap (how_many b) (two n l (omega arith)) ∙ many-cons b (n / 10 + 48) ((n % 10 + 48) ∷ []) (λ z. omega arith) ∙ many-cons b (n % 10 + 48) [] (λ z. omega arith))
    (low_or_high n)

decimal-short : (n : ℕ) → n < 100 → length (decimal n) ≤ 2
decimal-short n k =
    ⊎_elim (λ (l : n < 10). omega (arith, ap length (decimal-small n l))) (λ (l : 10 ≤ n). omega (arith, ap length (two n l (omega arith)))) (low_or_high n)

-- ---- one line

module _ (name : List ℕ) (n : ℕ) where
  -- the three fields and the tabs between them
  parted : map_fields name n ≡ map_word ++ (9 ∷ (name ++ (9 ∷ decimal n)))
  unfolding map_fields
  parted = ap (λ (l : List ℕ). map_word ++ (9 ∷ l)) (append_assoc name (9 ∷ []) (decimal n))

  module _ (h : name_rule name ≡ true) (k : n < 100) where
    pub map-split : split 9 (map_fields name n) ≡ map_word ∷ (name ∷ (decimal n ∷ []))
    unfolding how_many
    map-split =
        ap (split 9) parted ∙ split-join 9 map_word (name ++ (9 ∷ decimal n)) refl
        ∙ ap (λ (ps : List (List ℕ)). map_word ∷ ps)
        (split-join 9 name (decimal n) (name-lacks 9 name (omega arith) h)
        ∙ ap (λ (ps : List (List ℕ)). name ∷ ps) (split-none 9 (decimal n) (decimal-lacks 9 n (omega arith) k)))

    -- it is one line
    map-line-lacks : how_many 10 (map_fields name n) ≡ 0
    unfolding how_many
    map-line-lacks =
        ap (how_many 10) parted
        ∙ let m : how_many 10 (name ++ (9 ∷ decimal n)) ≡ how_many 10 name + how_many 10 (9 ∷ decimal n) = many-append 10 name (9 ∷ decimal n) in
        m ∙ omega (arith, name-lacks 10 name (omega arith) h, many-cons 10 9 (decimal n) (λ z. omega arith), decimal-lacks 10 n (omega arith) k)

    map-line-short : length (map_fields name n) ≤ 31
    map-line-short = omega (arith, ap length parted, length-append name (9 ∷ decimal n), (rule-length name h).1, decimal-short n k)

-- ---- the lines

text_lines : List MessageRow → List ℕ → List (List ℕ)
text_lines [] ns = []
text_lines (m ∷ ms) [] = []
text_lines (m ∷ ms) (n ∷ ns) = map_fields (name_text m.name) n ∷ text_lines ms ns

-- what holds of the later messages
later : (most : ℕ) (m : MessageRow) (ms : List MessageRow) (n : ℕ) (ns : List ℕ) → Writable most (m ∷ ms) (n ∷ ns) → Writable most ms ns
later most m ms n ns w =
    record {
      few = omega (arith, w.few);
      long = omega (arith, w.long);
      named = λ i h. w.named (suc i) (omega arith);
      below = λ i h. w.below (suc i) (omega arith);
    }

-- a line's text, and what follows
next-text : (l m : List ℕ) → (l ++ newline) ++ m ≡ l ++ (10 ∷ m)
next-text l m = append_assoc l (10 ∷ []) m

-- two digits are enough
small : (most n : ℕ) → most ≤ 100 → n < most → n < 100
small most n h k = omega arith

lines-texts : (most : ℕ) → most ≤ 100 → (ms : List MessageRow) (ns : List ℕ) → Writable most ms ns → lines (map_texts ms ns) ≡ text_lines ms ns
unfolding map_texts text_lines lines split
lines-texts most few [] ns w = refl
lines-texts most few (m ∷ ms) [] w = refl
lines-texts most few (m ∷ ms) (n ∷ ns) w =
    let l = map_fields (name_text m.name) n in
    ap lines (next-text l (map_texts ms ns))
    ∙ lines_join l (map_texts ms ns) (map-line-lacks (name_text m.name) n (w.named 0 (omega arith)) (small most n few (w.below 0 (omega arith))))
    ∙ ap (λ (ls : List (List ℕ)). l ∷ ls) (lines-texts most few ms ns (later most m ms n ns w))

ends-texts : (ms : List MessageRow) (ns : List ℕ) → Ends (map_texts ms ns)
unfolding map_texts
ends-texts [] ns = refl
ends-texts (m ∷ ms) [] = refl
ends-texts (m ∷ ms) (n ∷ ns) =
    let l = map_fields (name_text m.name) n in
    ap (λ (t : List ℕ). get_or t (length t - 1) 10) (next-text l (map_texts ms ns)) ∙ ends_join l (map_texts ms ns) (ends-texts ms ns)

short-texts : (most : ℕ) → most ≤ 100 → (ms : List MessageRow) (ns : List ℕ) → Writable most ms ns → length (map_texts ms ns) ≤ 32 * length ms
unfolding map_texts
short-texts most few [] ns w = omega arith
short-texts most few (m ∷ ms) [] w = omega arith
short-texts most few (m ∷ ms) (n ∷ ns) w =
    let l = map_fields (name_text m.name) n in
    omega (
      arith,
      ap length (next-text l (map_texts ms ns)),
      length-append l (10 ∷ map_texts ms ns),
      map-line-short (name_text m.name) n (w.named 0 (omega arith)) (small most n few (w.below 0 (omega arith))),
      short-texts most few ms ns (later most m ms n ns w),
    )

-- ---- reading them

-- a line that was written gives no refusal
line-good : (most before : ℕ) → most ≤ 100 → before < most → (m : MessageRow) (next : List MessageRow) (k n : ℕ) → n < most
    → (map_refusal most before (m ∷ next) k (map_word ∷ (name_text m.name ∷ (decimal n ∷ [])))).number ≡ 0
line-good most before few room m next k n h =
    let f = map_word ∷ (name_text m.name ∷ (decimal n ∷ [])) in
    ap (λ (r : Refusal). r.number)
    (line-next most before k f m next
    ∙ line-passes most before k f (same_refl map_word) room m (same_refl (name_text m.name)) (lt-ltb (network_of_lem most (decimal n)) most (omega (arith, network-found most few n h))))

-- with the lines before, there are no more than the header allows
read_back : (most : ℕ) → most ≤ 100 → (ms : List MessageRow) (ns : List ℕ) (k : ℕ) (first : List ℕ) → length first + length ms ≤ most → Writable most ms ns
    → read_maps most k (text_lines ms ns) ms first ≡ maps_accepted (first ++ ns)
unfolding read_maps text_lines
read_back most few [] [] k first room w = ap maps_accepted (sym (append-nil first))
read_back most few [] (n ∷ ns) k first room w = absurd (omega (arith, w.long))
read_back most few (m ∷ ms) [] k first room w = absurd (omega (arith, w.long))
read_back most few (m ∷ ms) (n ∷ ns) k first room w =
    let name = name_text m.name in
    let l = map_fields name n in
    let fields = map-split name n (w.named 0 (omega arith)) (small most n few (w.below 0 (omega arith))) in
    maps-more most k l (text_lines ms ns) (m ∷ ms) first
    (ap (λ (f : List (List ℕ)). (map_refusal most (length first) (m ∷ ms) k f).number) fields ∙ line-good most (length first) few (omega arith) m ms k n (w.below 0 (omega arith)))
    ∙ ap (λ (v : ℕ). read_maps most (suc k) (text_lines ms ns) ms (first ++ (v ∷ [])))
    (ap (λ (f : List (List ℕ)). network_of_lem most (field f 2)) fields ∙ network-found most few n (w.below 0 (omega arith)))
    ∙ read_back most few ms ns (suc k) (first ++ (n ∷ [])) (omega (arith, length-append first (n ∷ []))) (later most m ms n ns w)
    ∙ ap maps_accepted (append_assoc first (n ∷ []) ns)

-- ---- the whole text

-- a header is one line of 12 bytes, and allows 64 lines at most
record Plain (header : Header) : Type 0 where
  one_line : how_many 10 header.line ≡ 0
  short : length header.line ≡ 12
  few : header.most ≤ 64

module _ (header : Header) (plain : Plain header) (ms : List MessageRow) (ns : List ℕ) (w : Writable header.most ms ns) where
  whole : mapping_text header ms ns ≡ header.line ++ (10 ∷ map_texts ms ns)
  unfolding mapping_text
  whole = next-text header.line (map_texts ms ns)

  text-lines : lines (mapping_text header ms ns) ≡ header.line ∷ text_lines ms ns
  text-lines =
      ap lines whole ∙ lines_join header.line (map_texts ms ns) plain.one_line
      ∙ ap (λ (ls : List (List ℕ)). header.line ∷ ls) (lines-texts header.most (omega (arith, plain.few)) ms ns w)

  text-short : length (mapping_text header ms ns) ≤ 2061
  text-short =
      omega (arith, ap length whole, length-append header.line (10 ∷ map_texts ms ns), plain.short, short-texts header.most (omega (arith, plain.few)) ms ns w, w.few, plain.few)

  text-opens : opening_of header.line (mapping_text header ms ns) ≡ none
  text-opens =
      opens header.line (mapping_text header ms ns) (text_lines ms ns) (omega (arith, text-short))
      (ap (λ (t : List ℕ). get_or t (length t - 1) 10) whole ∙ ends_join header.line (map_texts ms ns) (ends-texts ms ns)) text-lines

  -- what was written reads back, where it is read under its header
  back-under : header_of (mapping_text header ms ns) ≡ header → read_mapping_lem ms (mapping_text header ms ns) ≡ maps_accepted ns
  back-under is =
      reading-opened ms (mapping_text header ms ns) header is (ap (λ (r : Refusal). r.number) text-opens)
      ∙ ap (λ (ls : List (List ℕ)). read_maps header.most 2 (drop 1 ls) ms []) text-lines
      ∙ read_back header.most (omega (arith, plain.few)) ms ns 2 [] (omega (arith, w.few)) w

plain1 : Plain header1
unfolding how_many
plain1 = record { one_line = refl; short = refl; few = omega arith }

plain2 : Plain header2
unfolding how_many
plain2 = record { one_line = refl; short = refl; few = omega arith }

-- "under the new header [..] the new limits"
pub reads-back-2 : (ms : List MessageRow) (ns : List ℕ) → Writable 64 ms ns → read_mapping_lem ms (mapping_text header2 ms ns) ≡ maps_accepted ns
reads-back-2 ms ns w =
    back-under header2 plain2 ms ns w (is-second (mapping_text header2 ms ns) (ap (λ (r : Refusal). r.number) (text-opens header2 plain2 ms ns w)))

-- the other header is not its first line
other-header : (ms : List MessageRow) (ns : List ℕ) → Writable 32 ms ns → (opening_of mapping_header2 (mapping_text header1 ms ns)).number ≡ 0 → ⊥
other-header ms ns w q =
    let e : mapping_header ∷ text_lines ms ns ≡ mapping_header2 ∷ drop 1 (lines (mapping_text header1 ms ns)) =
    sym (text-lines header1 plain1 ms ns w) ∙ (opened mapping_header2 (mapping_text header1 ms ns) q).first in
    let z : ◌≡◌ {A = ℕ} 49 50 = ap (λ (ls : List (List ℕ)). get_or (get_or ls 0 []) 11 0) e in
    omega (arith, z)

pub reads-back-1 : (ms : List MessageRow) (ns : List ℕ) → Writable 32 ms ns → read_mapping_lem ms (mapping_text header1 ms ns) ≡ maps_accepted ns
reads-back-1 ms ns w = back-under header1 plain1 ms ns w (is-first (mapping_text header1 ms ns) (other-header ms ns w))
