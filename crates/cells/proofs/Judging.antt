-- How a cell's line is refused: by its shape, or by what is read of it.
use Prim.Native.Nat.{ℕ, ◌≤◌, ◌<◌}
use mathlib.Core.Path.{◌≡◌, refl, sym, ap, ◌∙◌}
use mathlib.Core.Bool.{Bool, true, false, not}
use mathlib.Core.List.{List}
use lib.Dec.{leb}
use borrow.Author.Tests.{le-leb, lt-leb}
use Rattle.std.specs.Prelude.{Result, Ok, Err}
use Rattle.text.specs.Parts.{split}
use Rattle.text.specs.Words.{cell_word}
use Rattle.papers.specs.declared.Refusal.{Refusal}
use Rattle.papers.specs.declared.refused.Field.{Field}
use Rattle.papers.specs.declared.refused.Refused.{Refused}
use Rattle.papers.specs.refused.Refused.{told_refusal}
use Rattle.papers.specs.Checks.{field_refusal, first_of}
use Rattle.tables.specs.declared.Cell.{Cell}
use Rattle.tables.specs.declared.Tables.{Tables}
use Rattle.tables.specs.Tables.{stored_of}
use Rattle.tables.specs.Clash.{any_clash_lem}
use Rattle.text.specs.Line.{Line, says}
use Rattle.lines.specs.Line.{cell}
use Rattle.lines.specs.Checks.{shaped, known_cell, stall_in_stable, conflict, section_checks, shape_field, unknown_field, cell_names}
use Rattle.lines.proofs.Reasons.{Reason, tells, eight_of, line_reason, section-told, in-section}
use Rattle.lines.proofs.Sections.{a-cell}
use Rattle.cells.specs.declared.readings.CellReading.{CellReading}
use Rattle.cells.specs.readings.Known.{named_reading, CellRead}
use Rattle.cells.specs.Told.{CellTold, ReadAs, CellJudged}
use Rattle.cells.proofs.Names.{ok-known, err-unknown}

-- ---- why the line is refused

same-eight : (u v : ℕ) {a a' b b' c c' d d' e e' : Bool} → a ≡ a' → b ≡ b' → c ≡ c' → d ≡ d' → e ≡ e'
    → eight_of u 0 v 0 (not a) false false (not b) false c d e ≡ eight_of u 0 v 0 (not a') false false (not b') false c' d' e'
same-eight x y p q r s u = cc

pub in_order : (t : Tables) (f : Line) (a b c d e : Bool) → shaped cell f ≡ a → known_cell t f ≡ b → leb 512 t.cell_count ≡ c → stall_in_stable cell t f ≡ d
    → conflict cell t f ≡ e → line_reason cell t f ≡ eight_of (shape_field cell f) 0 (unknown_field cell t f) 0 (not a) false false (not b) false c d e
unfolding line_reason
in_order t f a b c d e p q r s u = same-eight (shape_field cell f) (unknown_field cell t f) p q r s u

module _ (t : Tables) (k : ℕ) (f : Line) where
  abbrev judgement : Bool → Bool → Bool → Bool → Bool → Refusal
  judgement a b c d e = tells (eight_of (shape_field cell f) 0 (unknown_field cell t f) 0 (not a) false false (not b) false c d e) k

  -- the line's checks by their tests
  by : (a b c d e : Bool) → shaped cell f ≡ a → known_cell t f ≡ b → leb 512 t.cell_count ≡ c → stall_in_stable cell t f ≡ d → conflict cell t f ≡ e
      → first_of (section_checks cell t k f) ≡ judgement a b c d e
  by a b c d e p q r s u = section-told cell t k f ∙ ap (λ (n : Reason). tells n k) (in_order t f a b c d e p q r s u)

  -- a line of another shape, and a shaped one with a name that is not known
  misshapen : shaped cell f ≡ false → first_of (section_checks cell t k f) ≡ field_refusal 4 k (shape_field cell f)
  misshapen s = by false (known_cell t f) (leb 512 t.cell_count) (stall_in_stable cell t f) (conflict cell t f) s refl refl refl refl

  not_known : shaped cell f ≡ true → known_cell t f ≡ false → first_of (section_checks cell t k f) ≡ field_refusal 7 k (unknown_field cell t f)
  not_known s n = by true false (leb 512 t.cell_count) (stall_in_stable cell t f) (conflict cell t f) s n refl refl refl

-- ---- by what is read of it

module _ (at : CellReading) (k : ℕ) (t : Tables) where
  -- the tests of a line all of whose names are known
  known-by : (b c d : Bool) → leb 512 t.cell_count ≡ b → at.stuck ≡ c → any_clash_lem at.cell (stored_of t) ≡ d
      → (f : Line) → ReadAs t f at → first_of (section_checks cell t k f) ≡ tells (eight_of 0 0 0 0 false false false false false b c d) k
  known-by b c d u v w f a =
      by t k f true true b c d a.shape a.known u (sym a.stuck ∙ v) (ap (λ (x : Cell). any_clash_lem x (stored_of t)) (sym a.cell) ∙ w)

  module _ (r : Refused) where
    pub too_many : 512 ≤ t.cell_count → told_refusal r ≡ field_refusal 9 k 0 → CellJudged at k t (Err r)
    too_many g e = record { told = λ f a. known-by true at.stuck (any_clash_lem at.cell (stored_of t)) (le-leb 512 t.cell_count g) refl refl f a ∙ sym e; cell = tt }

    pub stuck_there : t.cell_count < 512 → at.stuck ≡ true → told_refusal r ≡ field_refusal 10 k 0 → CellJudged at k t (Err r)
    stuck_there g s e = record { told = λ f a. known-by false true (any_clash_lem at.cell (stored_of t)) (lt-leb 512 t.cell_count g) s refl f a ∙ sym e; cell = tt }

    pub clashing : t.cell_count < 512 → at.stuck ≡ false → any_clash_lem at.cell (stored_of t) ≡ true → told_refusal r ≡ field_refusal 11 k 0 → CellJudged at k t (Err r)
    clashing g s c e = record { told = λ f a. known-by false false true (lt-leb 512 t.cell_count g) s c f a ∙ sym e; cell = tt }

  pub accepted : t.cell_count < 512 → at.stuck ≡ false → any_clash_lem at.cell (stored_of t) ≡ false → CellJudged at k t (Ok at.cell)
  accepted g s c = record { told = known-by false false false (lt-leb 512 t.cell_count g) s c; cell = refl }

-- ---- the line

module _ (k : ℕ) (line : List ℕ) (t : Tables) (first : says (split 9 line) 0 cell_word ≡ true) where
  abbrev f : Line
  f = split 9 line

  refused : (r : Refused) {n : Refusal} → first_of (section_checks cell t k f) ≡ n → told_refusal r ≡ n → CellTold k line t (Err r)
  refused r e q = record { told = in-section t k f cell (a-cell f first) ∙ e ∙ sym q; cell = tt }

  pub other_shape : (x : Field) → (shaped cell f ≡ false) × (x.0 ≡ shape_field cell f) → (r : Refused) → told_refusal r ≡ field_refusal 4 k x.0 → CellTold k line t (Err r)
  other_shape x s r q = refused r (misshapen t k f s.0) (rw (← s.1) q)

  module _ (s : shaped cell f ≡ true) where
    pub unknown_name : (x : Field) → CellRead f t (Err x) → (r : Refused) → told_refusal r ≡ field_refusal 7 k x.0 → CellTold k line t (Err r)
    unknown_name x e r q =
        let u = err-unknown (named_reading t f) (cell_names t f) (known_cell t f) x e in
        refused r (not_known t k f s u.0) (rw u.1 at q)

    pub told-judged : (at : CellReading) → CellRead f t (Ok at) → (r : Result Cell Refused) → CellJudged at k t r → CellTold k line t r
    told-judged at e r j =
        let u = ok-known (named_reading t f) (cell_names t f) (known_cell t f) at e in
        record {
          told = in-section t k f cell (a-cell f first) ∙ j.told f (record { shape = s; known = u.0; stuck = ap (λ (x : CellReading). x.stuck) u.1; cell = ap (λ (x : CellReading). x.cell) u.1 });
          cell = rw (ap (λ (x : CellReading). x.cell) u.1) at j.cell;
        }
