-- Each refusal is given only under its row.
use mathlib.Core.Path.{◌≡◌, refl, sym, ap, ◌∙◌, subst}
use mathlib.Core.Bool.{Bool, true, false}
use mathlib.Core.List.{List, [], ◌∷◌}
use mathlib.Core.Logic.{◌⊎◌, inl, inr, ⊎_elim}
use Prim.Native.Nat.{ℕ, zero, suc, ◌+◌, ◌<◌}
use native.Mathlib.Omega.{arith}
use native.Mathlib.Nat.{add-zero}
use lib.ListN.{length}
use lib.Dec.{eqb}
use borrow.Author.Tests.{eqb-true, eqb-false, not-true, ltb-true}
use Rattle.text.specs.Parts.{split}
use Rattle.text.specs.Words.{protocol_header}
use Rattle.papers.specs.declared.Refusal.{Refusal}
use Rattle.papers.specs.Checks.{ToldBy, told, row}
use Rattle.papers.specs.Opening.{opening_checks, opening_of, Opens}
use Rattle.papers.proofs.Checks.{only-given, Numbered, numbered}
use Rattle.papers.proofs.OpeningLaws.{opening-rows}
use Rattle.tables.specs.declared.Tables.{Tables}
use Rattle.tables.specs.Tables.{cleared_tables}
use Rattle.tables.specs.Cells.{cells_of, transient_of}
use Rattle.tables.specs.Relations.{cell_at}
use Rattle.rules.proofs.Stricter.{old-entries-remain}
use Rattle.text.specs.Line.{Line}
use Rattle.lines.specs.Line.{section_of}
use Rattle.lines.specs.Checks.{shaped, line_checks, line_refusal}
use Rattle.protocol.specs.whole.Whole.{Reading}
use Rattle.protocol.specs.whole.Whole.{refused, accepted, no_entry_at, whole_checks, whole_refusal}
use Rattle.protocol.specs.sections.Lines.{stored, read_lines}
use Rattle.protocol.specs.Reading.{read_protocol_lem}
use Rattle.reading_laws.specs.protocols.Promises.{after, fields_at, refusal_at, Unrefused, BadOpening, BadLine, BadWhole, AllRead, LinesAnswered, lines_of, EveryAnswer, at_end, Unbroken, Comes, Why, OnlyUnderItsRow, RefusedAsBefore, OldTextsRemain, RefusedCleared, too_big, no_end, header, shape, order, name, not_declared, declared_twice, too_many, stall_stable, clashes, no-message, no-entry}
use Rattle.protocol.specs.whole.Kept.{Kept}
use Rattle.protocol.proofs.sections.Kept.{kept-cleared}
use Rattle.reading_laws.proofs.protocols.KeptLines.{kept-after}
use Rattle.protocol.proofs.whole.Whole.{first-no-entry}
use Rattle.protocol.proofs.whole.Unless.{unless-passed, unless-refused}
use Rattle.protocol.proofs.Protocol.{body}

-- ---- one line on

module _ (t : Tables) (k : ℕ) (l : List ℕ) (ls : List (List ℕ)) (e : (line_refusal t k (split 9 l)).number ≡ 0) where
  abbrev next : Tables
  next = stored t (split 9 l)

  -- the reading goes on behind the line
  lines-on : read_lines k (l ∷ ls) t ≡ read_lines (suc k) ls next
  unfolding read_lines
  lines-on = unless-passed (line_refusal t k (split 9 l)) (read_lines (suc k) ls next) e

  more-at : (i : ℕ) → refusal_at next (suc k) ls i ≡ refusal_at t k (l ∷ ls) (suc i)
  unfolding after
  more-at i = ap (λ (n : ℕ). line_refusal (after i ls next) n (fields_at ls i)) (let p : suc k + i ≡ k + suc i = omega arith in p)

  unrefused-more : (j : ℕ) → Unrefused next (suc k) ls j → Unrefused t k (l ∷ ls) (suc j)
  unfolding after
  unrefused-more j h = record { lines = at }
    where
      at : (i : ℕ) → i < suc j → (refusal_at t k (l ∷ ls) i).number ≡ 0
      at zero g = ap (λ (n : ℕ). (line_refusal t n (split 9 l)).number) (add-zero k) ∙ e
      at (suc i) g = ap (λ (r : Refusal). r.number) (sym (more-at i)) ∙ h.lines i (omega arith)

  module _ (r s : Reading) (on : r ≡ s) where
    more-bad : BadLine next (suc k) ls s → BadLine t k (l ∷ ls) r
    unfolding after
    more-bad b =
        record {
          place = suc b.place;
          below = omega (arith, b.below);
          before = unrefused-more b.place b.before;
          told = subst (λ (n : ℕ). ToldBy (line_checks (after b.place ls next) n (fields_at ls b.place)) (line_refusal (after b.place ls next) n (fields_at ls b.place))) (let p : suc k + b.place ≡ k + suc b.place = omega arith in p) b.told;
          is = on ∙ b.is ∙ ap refused (more-at b.place);
        }

    more-whole : BadWhole next (suc k) ls s → BadWhole t k (l ∷ ls) r
    unfolding after
    more-whole b = record { before = unrefused-more (length ls) b.before; told = b.told; is = on ∙ b.is }

    more-read : AllRead next (suc k) ls s → AllRead t k (l ∷ ls) r
    unfolding after
    more-read b = record { before = unrefused-more (length ls) b.before; whole = b.whole; is = on ∙ b.is }

-- ---- the lines

-- the first line is bad
first_bad : (t : Tables) (k : ℕ) (l : List ℕ) (ls : List (List ℕ)) → ((line_refusal t k (split 9 l)).number ≡ 0 → ⊥) → BadLine t k (l ∷ ls) (read_lines k (l ∷ ls) t)
unfolding read_lines after line_refusal
first_bad t k l ls z =
    let f = split 9 l in
    let here : ToldBy (line_checks t k f) (line_refusal t k f) = only-given (line_checks t k f) (line_refusal t k f).number refl z in
    let p : k ≡ k + 0 = sym (add-zero k) in
    record {
      place = 0;
      below = omega arith;
      before = record { lines = λ i h. absurd (omega arith) };
      told = subst (λ (n : ℕ). ToldBy (line_checks t n f) (line_refusal t n f)) p here;
      is = unless-refused (line_refusal t k f) (read_lines (suc k) ls (stored t f)) z ∙ ap (λ (n : ℕ). refused (line_refusal t n f)) p;
    }

lines-answered : (ls : List (List ℕ)) (t : Tables) (k : ℕ) → LinesAnswered t k ls (read_lines k ls t)
unfolding read_lines after whole_refusal
lines-answered [] t k = go (eqb (whole_refusal t).number 0) refl
  where
    none : Unrefused t k [] 0
    none = record { lines = λ i h. absurd (omega arith) }

    go : (b : Bool) → eqb (whole_refusal t).number 0 ≡ b → LinesAnswered t k [] (read_lines k [] t)
    go true e =
        let z = eqb-true (whole_refusal t).number 0 e in
        inl (record { before = none; whole = z; is = unless-passed (whole_refusal t) (accepted t) z })
    go false e =
        let z = eqb-false (whole_refusal t).number 0 e in
        inr (inr (record { before = none; told = only-given (whole_checks t) (whole_refusal t).number refl z; is = unless-refused (whole_refusal t) (accepted t) z }))
lines-answered (l ∷ ls) t k = go (eqb (line_refusal t k (split 9 l)).number 0) refl (lines-answered ls (stored t (split 9 l)) (suc k))
  where
    go : (b : Bool) → eqb (line_refusal t k (split 9 l)).number 0 ≡ b → LinesAnswered (stored t (split 9 l)) (suc k) ls (read_lines (suc k) ls (stored t (split 9 l)))
        → LinesAnswered t k (l ∷ ls) (read_lines k (l ∷ ls) t)
    go true e w =
        let z = eqb-true (line_refusal t k (split 9 l)).number 0 e in
        let u = stored t (split 9 l) in
        let r = read_lines k (l ∷ ls) t in
        let s = read_lines (suc k) ls (stored t (split 9 l)) in
        let on = lines-on t k l ls z in
        ⊎_elim (λ (a : AllRead u (suc k) ls s). inl (more-read t k l ls z r s on a))
        (⊎_elim (λ (b : BadLine u (suc k) ls s). inr (inl (more-bad t k l ls z r s on b))) (λ (b : BadWhole u (suc k) ls s). inr (inr (more-whole t k l ls z r s on b)))) w
    go false e w =
        let z = eqb-false (line_refusal t k (split 9 l)).number 0 e in
        inr (inl (first_bad t k l ls z))

-- ---- the whole text

reading-opened : (text : List ℕ) → (opening_of protocol_header text).number ≡ 0 → read_protocol_lem text ≡ body text
unfolding read_protocol_lem
reading-opened text z = unless-passed (opening_of protocol_header text) (body text) z

reading-refused : (text : List ℕ) → ((opening_of protocol_header text).number ≡ 0 → ⊥) → read_protocol_lem text ≡ refused (opening_of protocol_header text)
unfolding read_protocol_lem
reading-refused text z = unless-refused (opening_of protocol_header text) (body text) z

pub every-answer : EveryAnswer
unfolding opening_of
every-answer text = go (eqb (opening_of protocol_header text).number 0) refl
  where
    go : (b : Bool) → eqb (opening_of protocol_header text).number 0 ≡ b
        → BadOpening text (read_protocol_lem text) ⊎ (Opens protocol_header text × LinesAnswered cleared_tables 2 (lines_of text) (read_protocol_lem text))
    go true e =
        let z = eqb-true (opening_of protocol_header text).number 0 e in
        inr (z, subst (LinesAnswered cleared_tables 2 (lines_of text)) (sym (reading-opened text z)) (lines-answered (lines_of text) cleared_tables 2))
    go false e =
        let z = eqb-false (opening_of protocol_header text).number 0 e in
        inl (record { told = only-given (opening_checks protocol_header text) (opening_of protocol_header text).number refl z; is = reading-refused text z })

-- the answer, whatever came before
answer : (text : List ℕ) → BadOpening text (read_protocol_lem text) ⊎ LinesAnswered cleared_tables 2 (lines_of text) (read_protocol_lem text)
answer text =
    ⊎_elim (λ (w : BadOpening text (read_protocol_lem text)). inl w)
    (λ (w : Opens protocol_header text × LinesAnswered cleared_tables 2 (lines_of text) (read_protocol_lem text)). inr w.1) (every-answer text)

-- the tables at the end are in order
pub kept-end : (text : List ℕ) → Unbroken text (length (lines_of text)) → Kept (at_end text)
kept-end text u = kept-after (lines_of text) cleared_tables 2 kept-cleared u

-- ---- the rows

-- a refusal that a row tells has that row's number, line and field
module _ (text : List ℕ) where
  abbrev Told : Refusal → Type 0
  Told r = Why text r.number r.line r.field

  why-opening : (i : ℕ) → i < 3 → (row (opening_checks protocol_header text) i).given ≡ true → Told (told (row (opening_checks protocol_header text) i))
  why-opening zero h e = too_big e
  why-opening (suc zero) h e = no_end e
  why-opening (suc (suc zero)) h e = header e
  why-opening (suc (suc (suc i))) h e = absurd (omega arith)

  why-line : (j i : ℕ) → Comes text j → i < 8 → (row (line_checks (after j (lines_of text) cleared_tables) (2 + j) (fields_at (lines_of text) j)) i).given ≡ true
      → Told (told (row (line_checks (after j (lines_of text) cleared_tables) (2 + j) (fields_at (lines_of text) j)) i))
  why-line j zero c h e = shape j c (not-true (shaped (section_of (fields_at (lines_of text) j)) (fields_at (lines_of text) j)) e)
  why-line j (suc zero) c h e = order j c e
  why-line j (suc (suc zero)) c h e = name j c e
  why-line j (suc (suc (suc zero))) c h e = not_declared j c e
  why-line j (suc (suc (suc (suc zero)))) c h e = declared_twice j c e
  why-line j (suc (suc (suc (suc (suc zero))))) c h e = too_many j c e
  why-line j (suc (suc (suc (suc (suc (suc zero)))))) c h e = stall_stable j c e
  why-line j (suc (suc (suc (suc (suc (suc (suc zero))))))) c h e = clashes j c e
  why-line j (suc (suc (suc (suc (suc (suc (suc (suc i)))))))) c h e = absurd (omega arith)

  why-whole : (i : ℕ) → Unbroken text (length (lines_of text)) → i < 2 → (row (whole_checks (at_end text)) i).given ≡ true → Told (told (row (whole_checks (at_end text)) i))
  why-whole zero u h e = no-message u (eqb-true (at_end text).message_count 0 e)
  why-whole (suc zero) u h e =
      let k = kept-end text u in
      no-entry u (no_entry_at (at_end text)) (ltb-true (no_entry_at (at_end text)) (at_end text).cell_count e) (first-no-entry (at_end text) k.long k.ok.few)
  why-whole (suc (suc i)) u h e = absurd (omega arith)

  -- what is answered, for a refusal
  answer-told : (r : Refusal) (a : Reading) → a ≡ refused r → Told r → Why text a.refusal.number a.refusal.line a.refusal.field
  answer-told r a e w = subst (λ (x : Reading). Why text x.refusal.number x.refusal.line x.refusal.field) (sym e) w

pub only-under-its-row : OnlyUnderItsRow
only-under-its-row text z =
    let a = read_protocol_lem text in
    ⊎_elim
    (λ (w : BadOpening text a).
    answer-told text (opening_of protocol_header text) a w.is
    (subst (Told text) (sym w.told.is) (why-opening text w.told.place w.told.first.below w.told.first.given)))
    (⊎_elim (λ (w : AllRead cleared_tables 2 (lines_of text) a). absurd (z (ap (λ (r : Reading). r.refusal.number) w.is)))
    (⊎_elim
    (λ (w : BadLine cleared_tables 2 (lines_of text) a).
    answer-told text (refusal_at cleared_tables 2 (lines_of text) w.place) a w.is
    (subst (Told text) (sym w.told.is) (why-line text w.place w.told.place (w.below, w.before) w.told.first.below w.told.first.given)))
    (λ (w : BadWhole cleared_tables 2 (lines_of text) a).
    answer-told text (whole_refusal (at_end text)) a w.is
    (subst (Told text) (sym w.told.is) (why-whole text w.told.place w.before w.told.first.below w.told.first.given)))))
    (answer text)

-- of the rows only that of 13 has its number
before-13 : (text : List ℕ) (n l m : ℕ) → Why text n l m → n ≡ 13 → (read_protocol_lem text).refusal.line ≡ l → RefusedAsBefore text
before-13 text n l m (too_big e) q r = absurd (omega (arith, q))
before-13 text n l m (no_end e) q r = absurd (omega (arith, q))
before-13 text n l m (header e) q r = absurd (omega (arith, q))
before-13 text n l m (shape i c e) q r = absurd (omega (arith, q))
before-13 text n l m (order i c e) q r = absurd (omega (arith, q))
before-13 text n l m (name i c e) q r = absurd (omega (arith, q))
before-13 text n l m (not_declared i c e) q r = absurd (omega (arith, q))
before-13 text n l m (declared_twice i c e) q r = absurd (omega (arith, q))
before-13 text n l m (too_many i c e) q r = absurd (omega (arith, q))
before-13 text n l m (stall_stable i c e) q r = absurd (omega (arith, q))
before-13 text n l m (clashes i c e) q r = absurd (omega (arith, q))
before-13 text n l m (no-message u e) q r = absurd (omega (arith, q))
before-13 text n l m (no-entry u i h f) q r =
    let t = at_end text in
    record { lines = u; cell = i; stored = h; told = r; directly = old-entries-remain (transient_of t) (cells_of t) (cell_at t i) (f.found h) }

pub old-texts-remain : OldTextsRemain
old-texts-remain text z =
    before-13 text (read_protocol_lem text).refusal.number (read_protocol_lem text).refusal.line (read_protocol_lem text).refusal.field (only-under-its-row text (λ e. absurd (omega (arith, e, z)))) z refl

pub refused-cleared : RefusedCleared
refused-cleared text z =
    let a = read_protocol_lem text in
    ⊎_elim (λ (w : BadOpening text a). ap (λ (r : Reading). r.tables) w.is)
    (⊎_elim (λ (w : AllRead cleared_tables 2 (lines_of text) a). absurd (z (ap (λ (r : Reading). r.refusal.number) w.is)))
    (⊎_elim (λ (w : BadLine cleared_tables 2 (lines_of text) a). ap (λ (r : Reading). r.tables) w.is)
    (λ (w : BadWhole cleared_tables 2 (lines_of text) a). ap (λ (r : Reading). r.tables) w.is)))
    (answer text)

-- ---- every row has a number

line-rows : (t : Tables) (k : ℕ) (f : Line) → Numbered (line_checks t k f)
line-rows t k f zero h q = omega arith
line-rows t k f (suc zero) h q = omega arith
line-rows t k f (suc (suc zero)) h q = omega arith
line-rows t k f (suc (suc (suc zero))) h q = omega arith
line-rows t k f (suc (suc (suc (suc zero)))) h q = omega arith
line-rows t k f (suc (suc (suc (suc (suc zero))))) h q = omega arith
line-rows t k f (suc (suc (suc (suc (suc (suc zero)))))) h q = omega arith
line-rows t k f (suc (suc (suc (suc (suc (suc (suc zero))))))) h q = omega arith
line-rows t k f (suc (suc (suc (suc (suc (suc (suc (suc i)))))))) h q = omega arith

whole-rows : (t : Tables) → Numbered (whole_checks t)
whole-rows t zero h q = omega arith
whole-rows t (suc zero) h q = omega arith
whole-rows t (suc (suc i)) h q = omega arith

-- a text that is not refused has all its lines read
pub all_read : (text : List ℕ) → (read_protocol_lem text).refusal.number ≡ 0 → AllRead cleared_tables 2 (lines_of text) (read_protocol_lem text)
all_read text z =
    let a = read_protocol_lem text in
    ⊎_elim (λ (w : BadOpening text a). absurd (numbered (opening_checks protocol_header text) (opening_of protocol_header text) (opening-rows protocol_header text) w.told (sym (ap (λ (r : Reading). r.refusal.number) w.is) ∙ z)))
    (⊎_elim (λ (w : AllRead cleared_tables 2 (lines_of text) a). w)
    (⊎_elim
    (λ (w : BadLine cleared_tables 2 (lines_of text) a).
    absurd (numbered (line_checks (after w.place (lines_of text) cleared_tables) (2 + w.place) (fields_at (lines_of text) w.place))
    (refusal_at cleared_tables 2 (lines_of text) w.place) (line-rows (after w.place (lines_of text) cleared_tables) (2 + w.place) (fields_at (lines_of text) w.place)) w.told
    (sym (ap (λ (r : Reading). r.refusal.number) w.is) ∙ z)))
    (λ (w : BadWhole cleared_tables 2 (lines_of text) a).
    absurd (numbered (whole_checks (at_end text)) (whole_refusal (at_end text)) (whole-rows (at_end text)) w.told (sym (ap (λ (r : Reading). r.refusal.number) w.is) ∙ z)))))
    (answer text)
