-- Each refusal is given only under its row, and what is accepted are networks.
use mathlib.Core.Path.{◌≡◌, refl, sym, ap, ap₂, ◌∙◌, subst}
use mathlib.Core.Bool.{Bool, true, false, not, cond}
use mathlib.Core.List.{List, [], ◌∷◌, ◌++◌, append_assoc, append-nil}
use mathlib.Core.Logic.{◌⊎◌, inl, inr, ⊎_elim}
use Prim.Native.Nat.{ℕ, zero, suc, ◌+◌, ◌≤◌, ◌<◌}
use native.Mathlib.Omega.{arith}
use native.Mathlib.Nat.{add-zero}
use lib.ListN.{length, get_or, drop, replicate, length-append}
use lib.Seq.{drop-drop}
use lib.Dec.{eqb}
use borrow.Author.Tests.{eqb-true, eqb-false, not-false, ltb-true}
use Rattle.text.specs.Parts.{split, lines}
use Rattle.text.specs.Words.{map_word}
use Rattle.papers.specs.declared.Refusal.{Refusal}
use Rattle.papers.specs.Checks.{Check, check, field_check, refusal, first_of}
use Rattle.papers.specs.Fields.{first_bad_field}
use Rattle.papers.specs.Opening.{opening_checks, opening_of, Opens}
use Rattle.papers.proofs.Checks.{first-given, first-passed, only-given, passed-by, numbered}
use Rattle.papers.proofs.OpeningLaws.{opening-rows}
use Rattle.tables.specs.declared.MessageRow.{MessageRow}
use Rattle.tables.proofs.AllCells.{get_or-zeros}
use Rattle.mapping.specs.Mapped.{Mapped}
use Rattle.text.specs.Line.{field, says}
use Rattle.lines.proofs.Both.{and_left}
use Rattle.lines.proofs.FieldTold.{first-fields}
use Rattle.mapping.specs.lines.Line.{map_shaped, map_shape_field, maps_full, matches, match_field, map_checks, map_refusal}
use Rattle.mapping.specs.networks.Networks.{network_of_lem, is_network}
use Rattle.mapping.specs.Headers.{header_of}
use Rattle.mapping.specs.Reading.{maps_accepted, maps_refused, read_maps, read_mapping_lem}
use Rattle.reading_laws.specs.mappings.Why.{MapsPassed, BadMap, MapsEndEarly, MapsAccepted, BadMapOpening, MapsAnswered, MappingAnswered, MappingAccepted, BadTold, MapFieldWithin}
use Rattle.mapping.proofs.ReadLaws.{maps-more, maps-stop, reading-refused, reading-opened}

-- ---- a line that gives no refusal

module _ (most before : ℕ) (next : List MessageRow) (k : ℕ) (f : List (List ℕ)) (e : (map_refusal most before next k f).number ≡ 0) where
  abbrev full : Check
  full = check 9 k (maps_full most before)

  abbrev match : Check
  match = field_check 14 k (match_field next) (not (matches next (field f 1)))

  abbrev network : Check
  network = field_check 15 k 3 (not (is_network most (field f 2)))

  after-shape : (not (map_shaped f) ≡ false) × ((first_of (full ∷ match ∷ network ∷ [])).number ≡ 0)
  unfolding map_refusal
  after-shape = passed-by (field_check 4 k (map_shape_field f) (not (map_shaped f))) (full ∷ match ∷ network ∷ []) (λ z. omega arith) e

  after-match : (not (matches next (field f 1)) ≡ false) × ((first_of (network ∷ [])).number ≡ 0)
  after-match = passed-by match (network ∷ []) (λ z. omega arith) (passed-by full (match ∷ network ∷ []) (λ z. omega arith) after-shape.1).1

  pub line-matches : matches next (field f 1) ≡ true
  line-matches = not-false (matches next (field f 1)) after-match.0

  pub line-network : network_of_lem most (field f 2) < most
  line-network =
      ltb-true (network_of_lem most (field f 2)) most
      (not-false (is_network most (field f 2)) (passed-by network [] (λ z. omega arith) after-match.1).0)

-- one message at least
some_next : (next : List MessageRow) (x : List ℕ) → matches next x ≡ true → length next ≡ suc (length (drop 1 next))
some_next [] x e = absurd (let q : ◌≡◌ {A = ℕ} 0 1 = cc in omega arith)
some_next (m ∷ next) x e = refl

-- ---- the three ways that the lines can end

-- Accepted, a bad line, or the text ends early.
abbrev pub MapsAnswer : ℕ → ℕ → List MessageRow → ℕ → List (List ℕ) → List ℕ → Type 0
MapsAnswer most before next k ls ns =
    MapsAccepted most before next k ls ns (read_maps most k ls next ns)
    ⊎ (BadMap most before next k ls (read_maps most k ls next ns) ⊎ MapsEndEarly most before next k ls (read_maps most k ls next ns))

module _ (most before : ℕ) (next : List MessageRow) (k : ℕ) (l : List ℕ) (ls : List (List ℕ)) (e : (map_refusal most before next k (split 9 l)).number ≡ 0) where
  more-at : (i : ℕ) → map_refusal most (suc before + i) (drop i (drop 1 next)) (suc k + i) (split 9 (get_or ls i []))
      ≡ map_refusal most (before + suc i) (drop (suc i) next) (k + suc i) (split 9 (get_or (l ∷ ls) (suc i) []))
  more-at i =
      let b : suc before + i ≡ before + suc i = omega arith in
      let p : suc k + i ≡ k + suc i = omega arith in
      let q : drop i (drop 1 next) ≡ drop (suc i) next = drop-drop i 1 next ∙ ap (λ (j : ℕ). drop j next) (let s : 1 + i ≡ suc i = omega arith in s) in
      ap (λ (j : ℕ). map_refusal most j (drop i (drop 1 next)) (suc k + i) (split 9 (get_or ls i []))) b
      ∙ ap₂ (λ (m : List MessageRow) (n : ℕ). map_refusal most (before + suc i) m n (split 9 (get_or ls i []))) q p

  passed-more : (j : ℕ) → MapsPassed most (suc before) (drop 1 next) (suc k) ls j → MapsPassed most before next k (l ∷ ls) (suc j)
  passed-more j h = record { lines = at }
    where
      at : (i : ℕ) → i < suc j → (map_refusal most (before + i) (drop i next) (k + i) (split 9 (get_or (l ∷ ls) i []))).number ≡ 0
      at zero g = ap₂ (λ (j n : ℕ). (map_refusal most j next n (split 9 l)).number) (add-zero before) (add-zero k) ∙ e
      at (suc i) g = ap (λ (r : Refusal). r.number) (sym (more-at i)) ∙ h.lines i (omega arith)

  -- the same answer, one line on
  module _ (r s : Mapped) (on : r ≡ s) where
    more-bad : BadMap most (suc before) (drop 1 next) (suc k) ls s → BadMap most before next k (l ∷ ls) r
    more-bad b =
        record {
          place = suc b.place;
          below = omega (arith, b.below);
          before = passed-more b.place b.before;
          bad = λ q. b.bad (ap (λ (m : Refusal). m.number) (more-at b.place) ∙ q);
          is = on ∙ b.is ∙ ap maps_refused (more-at b.place);
        }

    module _ (step : length next ≡ suc (length (drop 1 next))) where
      more-early : MapsEndEarly most (suc before) (drop 1 next) (suc k) ls s → MapsEndEarly most before next k (l ∷ ls) r
      more-early d =
          let q : suc k + length ls ≡ k + suc (length ls) = omega arith in
          record {
            before = passed-more (length ls) d.before;
            short = omega (arith, d.short);
            is = on ∙ d.is ∙ ap (λ (j : ℕ). maps_refused (refusal 14 j)) q;
          }

      more-accepted : (ns : List ℕ) → MapsAccepted most (suc before) (drop 1 next) (suc k) ls (ns ++ (network_of_lem most (field (split 9 l) 2) ∷ [])) s → MapsAccepted most before next k (l ∷ ls) ns r
      more-accepted ns a =
          record {
            before = passed-more (length ls) a.before;
            long = omega (arith, a.long);
            ns = network_of_lem most (field (split 9 l) 2) ∷ a.ns;
            count = omega (arith, a.count);
            gives = given;
            below = at;
            is = on ∙ a.is ∙ ap maps_accepted (append_assoc ns (network_of_lem most (field (split 9 l) 2) ∷ []) a.ns);
          }
        where
          given : (i : ℕ) → i < suc (length a.ns) → get_or (network_of_lem most (field (split 9 l) 2) ∷ a.ns) i 0 ≡ network_of_lem most (field (split 9 (get_or (l ∷ ls) i [])) 2)
          given zero h = refl
          given (suc i) h = a.gives i (omega arith)

          at : (i : ℕ) → i < suc (length a.ns) → get_or (network_of_lem most (field (split 9 l) 2) ∷ a.ns) i 0 < most
          at zero h = line-network most before next k (split 9 l) e
          at (suc i) h = a.below i (omega arith)

pub answered : (most before : ℕ) (ls : List (List ℕ)) (next : List MessageRow) (k : ℕ) (ns : List ℕ) → length ns ≡ before → MapsAnswer most before next k ls ns
unfolding read_maps
answered most before [] [] k ns q =
    inl
    (record {
      before = record { lines = λ i h. absurd (omega arith) };
      long = refl;
      ns = [];
      count = refl;
      gives = λ i h. absurd (omega arith);
      below = λ i h. absurd (omega arith);
      is = ap maps_accepted (sym (append-nil ns));
    })
answered most before [] (m ∷ next) k ns q =
    inr (inr (record { before = record { lines = λ i h. absurd (omega arith) }; short = omega arith; is = ap (λ (j : ℕ). maps_refused (refusal 14 j)) (sym (add-zero k)) }))
answered most before (l ∷ ls) next k ns q =
    go (eqb (map_refusal most before next k (split 9 l)).number 0) refl
    (answered most (suc before) ls (drop 1 next) (suc k) (ns ++ (network_of_lem most (field (split 9 l) 2) ∷ [])) (omega (arith, length-append ns (network_of_lem most (field (split 9 l) 2) ∷ []), q)))
  where
    -- the line's refusal, as the reading has it
    same : map_refusal most (length ns) next k (split 9 l) ≡ map_refusal most before next k (split 9 l)
    same = ap (λ (j : ℕ). map_refusal most j next k (split 9 l)) q

    go : (t : Bool) → eqb (map_refusal most before next k (split 9 l)).number 0 ≡ t → MapsAnswer most (suc before) (drop 1 next) (suc k) ls (ns ++ (network_of_lem most (field (split 9 l) 2) ∷ []))
        → MapsAnswer most before next k (l ∷ ls) ns
    go true e w =
        let z = eqb-true (map_refusal most before next k (split 9 l)).number 0 e in
        let more = read_maps most (suc k) ls (drop 1 next) (ns ++ (network_of_lem most (field (split 9 l) 2) ∷ [])) in
        let on = maps-more most k l ls next ns (ap (λ (r : Refusal). r.number) same ∙ z) in
        let step = some_next next (field (split 9 l) 1) (line-matches most before next k (split 9 l) z) in
        ⊎_elim (λ (a : MapsAccepted most (suc before) (drop 1 next) (suc k) ls (ns ++ (network_of_lem most (field (split 9 l) 2) ∷ [])) more).
        inl (more-accepted most before next k l ls z (read_maps most k (l ∷ ls) next ns) more on step ns a))
        (⊎_elim (λ (b : BadMap most (suc before) (drop 1 next) (suc k) ls more).
        inr (inl (more-bad most before next k l ls z (read_maps most k (l ∷ ls) next ns) more on b)))
        (λ (d : MapsEndEarly most (suc before) (drop 1 next) (suc k) ls more).
        inr (inr (more-early most before next k l ls z (read_maps most k (l ∷ ls) next ns) more on step d)))) w
    go false e w =
        let z = eqb-false (map_refusal most before next k (split 9 l)).number 0 e in
        let here : map_refusal most before next k (split 9 l) ≡ map_refusal most (before + 0) next (k + 0) (split 9 l) =
        ap₂ (λ (j n : ℕ). map_refusal most j next n (split 9 l)) (sym (add-zero before)) (sym (add-zero k)) in
        inr (inl (record {
          place = 0;
          below = omega arith;
          before = record { lines = λ i h. absurd (omega arith) };
          bad = λ q. z (ap (λ (r : Refusal). r.number) here ∙ q);
          is = maps-stop most k l ls next ns (λ g. z (sym (ap (λ (r : Refusal). r.number) same) ∙ g)) ∙ ap maps_refused (same ∙ here);
        }))

-- ---- the whole text

-- every answer is under its row
pub mapping-answered : MappingAnswered
unfolding opening_of
mapping-answered messages text = go (eqb (opening_of (header_of text).line text).number 0) refl
  where
    go : (t : Bool) → eqb (opening_of (header_of text).line text).number 0 ≡ t
        → BadMapOpening text (read_mapping_lem messages text) ⊎ (Opens (header_of text).line text × MapsAnswered messages text (read_mapping_lem messages text))
    go true e =
        let z = eqb-true (opening_of (header_of text).line text).number 0 e in
        inr (z, subst (MapsAnswered messages text) (sym (reading-opened messages text (header_of text) refl z)) (answered (header_of text).most 0 (drop 1 (lines text)) messages 2 [] refl))
    go false e =
        let z = eqb-false (opening_of (header_of text).line text).number 0 e in
        inl (record { told = only-given (opening_checks (header_of text).line text) (opening_of (header_of text).line text).number refl z; is = reading-refused messages text (header_of text) refl z })

-- a mapping that is not refused gives each message a network
pub mapping-accepted : MappingAccepted
mapping-accepted messages text h =
    let r = read_mapping_lem messages text in
    let line = (header_of text).line in
    let most = (header_of text).most in
    let ls = drop 1 (lines text) in
    ⊎_elim (λ (w : BadMapOpening text r). absurd (numbered (opening_checks line text) (opening_of line text) (opening-rows line text) w.told (sym (ap (λ (r : Mapped). r.refusal.number) w.is) ∙ h)))
    (λ (v : Opens line text × MapsAnswered messages text r).
    ⊎_elim (λ (w : MapsAccepted most 0 messages 2 ls [] r). w)
    (⊎_elim (λ (w : BadMap most 0 messages 2 ls r). absurd (w.bad (sym (ap (λ (r : Mapped). r.refusal.number) w.is) ∙ h)))
    (λ (w : MapsEndEarly most 0 messages 2 ls r). absurd (omega (arith, ap (λ (r : Mapped). r.refusal.number) w.is)))) v.1)
    (mapping-answered messages text)

-- the row of a bad line
pub bad-told : BadTold
unfolding map_refusal
bad-told most before next k ls r w =
    let cs = map_checks most (before + w.place) (drop w.place next) (k + w.place) (split 9 (get_or ls w.place [])) in
    only-given cs (first_of cs).number refl w.bad

-- ---- the networks that are given

pub pad-at : (l : List ℕ) (n i : ℕ) → get_or (l ++ replicate n 0) i 0 ≡ get_or l i 0
pad-at [] n i = get_or-zeros n i
pad-at (x ∷ l) n zero = refl
pad-at (x ∷ l) n (suc i) = pad-at l n i

-- ---- the field that is told

pub map-field-within : MapFieldWithin
unfolding map_refusal first_bad_field
map-field-within most above next k f h = go (map_shaped f) refl
  where
    first : Check
    first = field_check 4 k (map_shape_field f) (not (map_shaped f))

    others : List Check
    others = check 9 k (maps_full most above) ∷ field_check 14 k (match_field next) (not (matches next (field f 1))) ∷ field_check 15 k 3 (not (is_network most (field f 2))) ∷ []

    word : (b : Bool) → cond b 1 0 ≤ length f
    word true = omega arith
    word false = omega arith

    turn : (l : List MessageRow) → length f ≡ 3 → match_field l ≤ length f
    turn [] n = omega arith
    turn (m ∷ l) n = omega arith

    go : (b : Bool) → map_shaped f ≡ b → (first_of (map_checks most above next k f)).field ≤ length f
    go true e =
        let n = eqb-true (length f) 3 (and_left (eqb (length f) 3) (says f 0 map_word) e) in
        subst (λ (r : Refusal). r.field ≤ length f) (sym (first-passed first others (ap not e))) (first-fields (length f) others (omega arith, (turn next n, (omega (arith, n), tt))))
    go false e = subst (λ (r : Refusal). r.field ≤ length f) (sym (first-given first others (ap not e))) (word (not (says f 0 map_word)))
