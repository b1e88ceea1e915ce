-- Laws of the reading of a mapping: the loop over its lines.
use mathlib.Core.Path.{◌≡◌, sym, ap, ap₂, ◌∙◌, subst}
use mathlib.Core.Bool.{Bool, true, cond}
use mathlib.Core.List.{List, [], ◌∷◌, ◌++◌, map, append_assoc, map-append}
use Prim.Native.Nat.{ℕ, suc, ◌+◌, ◌-◌, ◌≤◌, ◌<◌}
use native.Mathlib.Omega.{arith}
use lib.ListN.{length, take, drop, get_or, set, replicate, length-append, length-map, drop_of_length-le, length-drop}
use lib.Seq.{drop-cons, drop-drop, set_at, take_all, get_or-drop}
use borrow.Author.Tests.{eq-eqb, ne_eqb}
use Rattle.rules.specs.declared.Network.{Network}
use Rattle.rules.specs.Numbers.{as_network}
use Rattle.text.specs.Parts.{part, place, split, lines}
use Rattle.text.specs.Words.{mapping_header2}
use Rattle.text.proofs.Lines.{lines_end}
use Rattle.papers.specs.declared.Refusal.{Refusal}
use Rattle.std.specs.Prelude.{Ok, Err}
use Rattle.papers.specs.declared.refused.Field.{Field}
use Rattle.papers.specs.declared.refused.Refused.{Refused}
use Rattle.papers.specs.refused.Refused.{told_refusal}
use Rattle.papers.specs.Checks.{refusal, field_refusal, none}
use Rattle.papers.specs.Opening.{opening_of}
use Rattle.papers.specs.Lined.{Lined}
use Rattle.papers.proofs.Refusals.{told-some}
use Rattle.papers.proofs.OpeningLaws.{opened}
use Rattle.papers.proofs.Walk.{NextLine, walk-next}
use Rattle.tables.specs.declared.MessageRow.{MessageRow}
use Rattle.tables.specs.Tables.{no_message_row}
use Rattle.mapping.specs.Mapped.{Mapped}
use Rattle.text.specs.Line.{field}
use Rattle.mapping.specs.lines.Line.{map_shaped, map_shape, map_refusal}
use Rattle.mapping.specs.networks.Networks.{network_of_lem}
use Rattle.mapping.specs.Headers.{Header, header1, header2, header_of}
use Rattle.mapping.specs.Reading.{mapped_of, maps_refused, maps_unless, read_maps, read_under, read_mapping_lem}
use Rattle.mapping.proofs.lines.LineLaws.{wrong-shaped, line-shape, line-full, line-many, line-next}

-- ---- one step of the reading

maps-passed : (r : Refusal) (a : Mapped) → r.number ≡ 0 → maps_unless r a ≡ a
maps-passed r a e = ap (λ (t : Bool). cond t a (maps_refused r)) (eq-eqb r.number 0 e)

maps-stopped : (r : Refusal) (a : Mapped) → (r.number ≡ 0 → ⊥) → maps_unless r a ≡ maps_refused r
maps-stopped r a e = ap (λ (t : Bool). cond t a (maps_refused r)) (ne_eqb r.number 0 e)

module _ (most k : ℕ) (l : List ℕ) (ls : List (List ℕ)) (next : List MessageRow) (ns : List ℕ) where
  -- the next line gives a refusal
  pub maps-stop : ((map_refusal most (length ns) next k (split 9 l)).number ≡ 0 → ⊥) → read_maps most k (l ∷ ls) next ns ≡ maps_refused (map_refusal most (length ns) next k (split 9 l))
  unfolding read_maps
  maps-stop h = maps-stopped (map_refusal most (length ns) next k (split 9 l)) (read_maps most (suc k) ls (drop 1 next) (ns ++ (network_of_lem most (field (split 9 l) 2) ∷ []))) h

  pub maps-refused : (why : Refusal) → (why.number ≡ 0 → ⊥) → map_refusal most (length ns) next k (split 9 l) ≡ why → read_maps most k (l ∷ ls) next ns ≡ maps_refused why
  maps-refused why h e = maps-stop (λ q. h (sym (ap (λ (r : Refusal). r.number) e) ∙ q)) ∙ ap maps_refused e

  -- it gives none
  pub maps-more : (map_refusal most (length ns) next k (split 9 l)).number ≡ 0
      → read_maps most k (l ∷ ls) next ns ≡ read_maps most (suc k) ls (drop 1 next) (ns ++ (network_of_lem most (field (split 9 l) 2) ∷ []))
  unfolding read_maps
  maps-more e = maps-passed (map_refusal most (length ns) next k (split 9 l)) (read_maps most (suc k) ls (drop 1 next) (ns ++ (network_of_lem most (field (split 9 l) 2) ∷ []))) e

-- ---- the loop

-- The first i messages have their lines, and what is left of the text starts at `at`.
pub record Going (most : ℕ) (text : List ℕ) (messages : List MessageRow) (at i : ℕ) (networks : List Network) : Type 0 where
  pub left : Lined text at
  pub few : i ≤ length messages
  pub room : i ≤ most
  pub ns : List ℕ
  pub long : length ns ≡ i
  pub kept : networks ≡ map as_network (ns ++ replicate (64 - i) 0)
  pub goal : read_maps most (i + 2) (lines (drop at text)) (drop i messages) ns ≡ read_maps most 2 (lines text) messages []

-- one network is stored behind those that are there
stored : (ns : List ℕ) (i n : ℕ) → length ns ≡ i → i < 64
    → set (map as_network (ns ++ replicate (64 - i) 0)) i (as_network n) ≡ map as_network ((ns ++ (n ∷ [])) ++ replicate (64 - (i + 1)) 0)
stored ns i n e h =
    let q : 64 - i ≡ suc (64 - (i + 1)) = omega arith in
    let zs : List ℕ = replicate (64 - (i + 1)) 0 in
    ap (λ (j : ℕ). set (map as_network (ns ++ replicate j 0)) i (as_network n)) q
    ∙ ap (λ (l : List Network). set l i (as_network n)) (map-append as_network ns (0 ∷ zs))
    ∙ set_at (map as_network ns) (as_network 0) (map as_network zs) (as_network n) i (length-map ns as_network ∙ e)
    ∙ sym (map-append as_network ns (n ∷ zs)) ∙ ap (map as_network) (sym (append_assoc ns (n ∷ []) zs))

module _ (most : ℕ) (text : List ℕ) (messages : List MessageRow) where
  module _ (at i : ℕ) (networks : List Network) (g : Going most text messages at i networks) where
    -- no line is left
    pub going_done : length text ≤ at → length messages ≤ i → mapped_of (Ok networks) ≡ read_maps most 2 (lines text) messages []
    unfolding read_maps
    going_done h k =
        ap (λ (l : List Network). mapped_of (Ok l)) (g.kept ∙ ap (λ (j : ℕ). map as_network (g.ns ++ replicate (64 - j) 0)) (sym g.long))
        ∙ sym (ap₂ (λ (ls : List (List ℕ)) (next : List MessageRow). read_maps most (i + 2) ls next g.ns) (lines_end text at h) (drop_of_length-le messages {i = i} k))
        ∙ g.goal

    -- a message has no line
    pub going-short : (r : Refused) → told_refusal r ≡ refusal 14 (i + 2) → length text ≤ at → i < length messages
        → mapped_of (Err r) ≡ read_maps most 2 (lines text) messages []
    unfolding read_maps
    going-short r q h k =
        ap maps_refused q
        ∙ sym (ap₂ (λ (ls : List (List ℕ)) (next : List MessageRow). read_maps most (i + 2) ls next g.ns) (lines_end text at h) (drop-cons messages i (get_or messages i no_message_row) k))
        ∙ g.goal

    module _ (h : at < length text) where
      abbrev e : ℕ
      e = place 10 text at (length text)

      next_line_lem : NextLine text at e
      next_line_lem = walk-next text at g.left h

      pub line-within : (at ≤ place 10 text at (length text)) × (place 10 text at (length text) < length text)
      line-within = (next_line_lem.from, next_line_lem.ends)

      module _ (line : List ℕ) (is : line ≡ part text at (place 10 text at (length text))) where
        first : lines (drop at text) ≡ line ∷ lines (drop (e + 1) text)
        first = next_line_lem.first ∙ ap (λ (l : List ℕ). l ∷ lines (drop (e + 1) text)) (sym is)

        -- the next line is refused
        refused-by : (r : Refused) → map_refusal most i (drop i messages) (i + 2) (split 9 line) ≡ told_refusal r → mapped_of (Err r) ≡ read_maps most 2 (lines text) messages []
        refused-by r q =
            sym (ap (λ (ls : List (List ℕ)). read_maps most (i + 2) ls (drop i messages) g.ns) first
            ∙ maps-refused most (i + 2) line (lines (drop (e + 1) text)) (drop i messages) g.ns (told_refusal r) (told-some r)
            (ap (λ (j : ℕ). map_refusal most j (drop i messages) (i + 2) (split 9 line)) g.long ∙ q))
            ∙ g.goal

        pub going-shape : (x : Field) → map_shape (split 9 line) ≡ Err x → (r : Refused) → told_refusal r ≡ field_refusal 4 (i + 2) x.0
            → mapped_of (Err r) ≡ read_maps most 2 (lines text) messages []
        going-shape x q r t =
            let w = wrong-shaped (split 9 line) x q in
            refused-by r (line-shape most i (i + 2) (split 9 line) (drop i messages) w.0 ∙ ap (field_refusal 4 (i + 2)) w.1 ∙ sym t)

        module _ (s : map_shaped (split 9 line) ≡ true) where
          pub going-full : i ≡ most → (r : Refused) → told_refusal r ≡ refusal 9 (i + 2) → mapped_of (Err r) ≡ read_maps most 2 (lines text) messages []
          going-full q r t = refused-by r (line-full most i (i + 2) (split 9 line) s (drop i messages) (omega (arith, q)) ∙ sym t)

          pub going-many : i < most → length messages ≤ i → (r : Refused) → told_refusal r ≡ refusal 14 (i + 2) → mapped_of (Err r) ≡ read_maps most 2 (lines text) messages []
          going-many room q r t =
              refused-by r
              (ap (λ (next : List MessageRow). map_refusal most i next (i + 2) (split 9 line)) (drop_of_length-le messages {i = i} q)
              ∙ line-many most i (i + 2) (split 9 line) s room ∙ sym t)

          module _ (k : i < length messages) (m : MessageRow) (turn : m ≡ get_or messages i m) where
            checks : map_refusal most i (drop i messages) (i + 2) (split 9 line) ≡ map_refusal most i (m ∷ []) (i + 2) (split 9 line)
            checks =
                ap (λ (next : List MessageRow). map_refusal most i next (i + 2) (split 9 line))
                (drop-cons messages i m k ∙ ap (λ (r : MessageRow). r ∷ drop (suc i) messages) (sym turn))
                ∙ line-next most i (i + 2) (split 9 line) m (drop (suc i) messages)

            pub going-refused : (r : Refused) → told_refusal r ≡ map_refusal most i (m ∷ []) (i + 2) (split 9 line) → mapped_of (Err r) ≡ read_maps most 2 (lines text) messages []
            going-refused r q = refused-by r (checks ∙ sym q)

            pub going_more : i < most → most ≤ 64 → none ≡ map_refusal most i (m ∷ []) (i + 2) (split 9 line)
                → (network : Network) → network ≡ as_network (network_of_lem most (field (split 9 line) 2))
                → Going most text messages (place 10 text at (length text) + 1) (i + 1) (set networks i network)
            going_more room top q network v =
                let n = network_of_lem most (field (split 9 line) 2) in
                let nothing : (map_refusal most (length g.ns) (drop i messages) (i + 2) (split 9 line)).number ≡ 0 =
                ap (λ (r : Refusal). r.number) (ap (λ (j : ℕ). map_refusal most j (drop i messages) (i + 2) (split 9 line)) g.long ∙ checks ∙ sym q) in
                let on : suc (i + 2) ≡ i + 1 + 2 = omega arith in
                let step : drop 1 (drop i messages) ≡ drop (i + 1) messages = drop-drop 1 i messages in
                record {
                  left = next_line_lem.more;
                  few = omega arith;
                  room = omega arith;
                  ns = g.ns ++ (n ∷ []);
                  long = length-append g.ns (n ∷ []) ∙ ap (λ (j : ℕ). j + 1) g.long;
                  kept = ap₂ (λ (xs : List Network) (x : Network). set xs i x) g.kept v ∙ stored g.ns i n g.long (omega arith);
                  goal =
                      sym
                      (ap (λ (ls : List (List ℕ)). read_maps most (i + 2) ls (drop i messages) g.ns) first
                      ∙ maps-more most (i + 2) line (lines (drop (e + 1) text)) (drop i messages) g.ns nothing
                      ∙ ap (λ (j : ℕ). read_maps most j (lines (drop (e + 1) text)) (drop 1 (drop i messages)) (g.ns ++ (network_of_lem most (field (split 9 line) 2) ∷ []))) on
                      ∙ ap (λ (next : List MessageRow). read_maps most (i + 1 + 2) (lines (drop (e + 1) text)) next (g.ns ++ (n ∷ []))) step)
                      ∙ g.goal;
                }

-- ---- the whole text

module _ (messages : List MessageRow) (text : List ℕ) where
  -- under a header that the text opens with
  module _ (header : Header) (is : header_of text ≡ header) where
    under : read_mapping_lem messages text ≡ read_under header messages text
    unfolding read_mapping_lem
    under = ap (λ (h : Header). read_under h messages text) is

    pub reading-refused : ((opening_of header.line text).number ≡ 0 → ⊥) → read_mapping_lem messages text ≡ maps_refused (opening_of header.line text)
    reading-refused h = under ∙ maps-stopped (opening_of header.line text) (read_maps header.most 2 (drop 1 (lines text)) messages []) h

    pub reading-opened : (opening_of header.line text).number ≡ 0 → read_mapping_lem messages text ≡ read_maps header.most 2 (drop 1 (lines text)) messages []
    reading-opened h = under ∙ maps-passed (opening_of header.line text) (read_maps header.most 2 (drop 1 (lines text)) messages []) h

    -- the lines behind the header
    pub reading-lines : (r : Mapped) → (opening_of header.line text).number ≡ 0
        → r ≡ read_maps header.most 2 (lines (drop (place 10 text 0 (length text) + 1) text)) messages [] → r ≡ read_mapping_lem messages text
    reading-lines r h q =
        q ∙ ap (λ (ls : List (List ℕ)). read_maps header.most 2 ls messages []) (opened header.line text h).rest ∙ sym (reading-opened h)

-- which header it is
pub is-second : (text : List ℕ) → (opening_of mapping_header2 text).number ≡ 0 → header_of text ≡ header2
unfolding header_of
is-second text h = ap (λ (t : Bool). cond t header2 header1) (eq-eqb (opening_of mapping_header2 text).number 0 h)

pub is-first : (text : List ℕ) → ((opening_of mapping_header2 text).number ≡ 0 → ⊥) → header_of text ≡ header1
unfolding header_of
is-first text h = ap (λ (t : Bool). cond t header2 header1) (ne_eqb (opening_of mapping_header2 text).number 0 h)

-- what is left of a text, as a text of its own
module _ (text : List ℕ) (at : ℕ) where
  pub rest_lem : take (length text - at) (drop at text) ≡ drop at text
  rest_lem = take_all (length text - at) (drop at text) (omega (arith, length-drop at text))

  pub lined_rest : Lined text at → Lined (take (length text - at) (drop at text)) 0
  lined_rest h = subst (λ (l : List ℕ). Lined l 0) (sym rest_lem) (record {
    within = omega arith;
    last = λ k.
        let n = length-drop at text in
        let q : at + (length (drop at text) - 1) ≡ length text - 1 = omega (arith, n, k) in
        get_or-drop at text (length (drop at text) - 1) 0 ∙ ap (λ (j : ℕ). get_or text j 0) q ∙ h.last (omega (arith, n, k));
  })
