-- Why a line is refused: number and field of the first check that is given.
use Prim.Native.Nat.{ℕ, suc}
use mathlib.Core.Path.{◌≡◌, refl, sym, ap, ◌∙◌}
use mathlib.Core.Bool.{Bool, true, false, not, cond}
use mathlib.Core.List.{List, [], ◌∷◌}
use native.Mathlib.Omega.{arith}
use lib.Dec.{eqb}
use borrow.Author.Tests.{ne_eqb, eqb-true}
use Rattle.text.specs.Parts.{split}
use Rattle.papers.specs.declared.Refusal.{Refusal}
use Rattle.papers.specs.Checks.{Check, field_refusal, none, first_of}
use Rattle.papers.proofs.Checks.{first-given, first-passed}
use Rattle.tables.specs.declared.Tables.{Tables}
use Rattle.text.specs.Line.{Line}
use Rattle.lines.specs.Line.{Section, section_of}
use Rattle.lines.specs.Checks.{shaped, shape_field, later_read, bad_name, name_field, is_not_known, unknown_field, twice, full, stall_in_stable, conflict, section_checks, line_refusal}
use Rattle.lines.specs.Told.{Refuses}

-- ---- a refusal of one line

-- Why a line is refused: the number, and the field that is told.
pub record Reason : Type 0 where
  pub number : ℕ
  pub field : ℕ

abbrev pub reason : ℕ → ℕ → Reason
reason number field = record { number = number; field = field }

abbrev pub no_reason : Reason
no_reason = reason 0 0

-- The refusal for this reason at line k; no refusal where the number is 0.
abbrev pub tells : Reason → ℕ → Refusal
tells r k = cond (eqb r.number 0) none (field_refusal r.number k r.field)

-- refusals that are equal have one number
pub one_number : {r s : Refusal} → r ≡ s → r.number ≡ s.number
one_number e = ap (λ (x : Refusal). x.number) e

pub tells-some : (r : Reason) (k : ℕ) → (r.number ≡ 0 → ⊥) → tells r k ≡ field_refusal r.number k r.field
tells-some r k h = ap (λ (b : Bool). cond b none (field_refusal r.number k r.field)) (ne_eqb r.number 0 h)

pub tells-number : (r : Reason) (k : ℕ) → (tells r k).number ≡ r.number
tells-number r k = go (eqb r.number 0) refl
  where
    go : (b : Bool) → eqb r.number 0 ≡ b → (tells r k).number ≡ r.number
    go true e = ap (λ (c : Bool). (cond c none (field_refusal r.number k r.field)).number) e ∙ sym (eqb-true r.number 0 e)
    go false e = ap (λ (c : Bool). (cond c none (field_refusal r.number k r.field)).number) e

-- ---- checks that tell the same line

-- Number and field of the first given check, and no reason where none is given.
unfoldable pub first_reason : List Check → Reason
first_reason [] = no_reason
first_reason (c ∷ cs) = cond c.given (reason c.number c.field) (first_reason cs)

-- Every check tells line k and has a number.
pub data OnLine (k : ℕ) : List Check → Type 0 where
  no_more : OnLine k []
  one_more : {c : Check} {cs : List Check} → c.line ≡ k → (c.number ≡ 0 → ⊥) → OnLine k cs → OnLine k (c ∷ cs)

-- such checks are told by a reason
pub one_line : (k : ℕ) {cs : List Check} → OnLine k cs → first_of cs ≡ tells (first_reason cs) k
unfolding first_of first_reason
one_line k no_more = refl
one_line k (one_more {c} {cs} l n o) = go c.given refl (one_line k o)
  where
    go : (b : Bool) → c.given ≡ b → first_of cs ≡ tells (first_reason cs) k → first_of (c ∷ cs) ≡ tells (first_reason (c ∷ cs)) k
    go true e h =
        first-given c cs e ∙ ap (λ (j : ℕ). field_refusal c.number j c.field) l ∙ sym (tells-some (reason c.number c.field) k n)
        ∙ ap (λ (b : Bool). tells (cond b (reason c.number c.field) (first_reason cs)) k) (sym e)
    go false e h = first-passed c cs e ∙ h ∙ ap (λ (b : Bool). tells (cond b (reason c.number c.field) (first_reason cs)) k) (sym e)

-- ---- the eight checks of a line

-- The fields are those that 4, 6, 7 and 8 tell.
abbrev pub eight_of : ℕ → ℕ → ℕ → ℕ → Bool → Bool → Bool → Bool → Bool → Bool → Bool → Bool → Reason
eight_of four six seven eight a b c d e f g h =
    cond a (reason 4 four)
    (cond b (reason 5 0)
    (cond c (reason 6 six)
    (cond d (reason 7 seven)
    (cond e (reason 8 eight)
    (cond f (reason 9 0)
    (cond g (reason 10 0)
    (cond h (reason 11 0) no_reason)))))))

unfoldable pub line_reason : Section → Tables → Line → Reason
line_reason s t f =
    eight_of (shape_field s f) (name_field s) (unknown_field s t f) (name_field s)
    (not (shaped s f)) (later_read s t) (bad_name s f) (is_not_known s t f) (twice s t f) (full s t) (stall_in_stable s t f) (conflict s t f)

pub never : (n : ℕ) → suc n ≡ 0 → ⊥
never n z = omega arith

eight : (s : Section) (t : Tables) (k : ℕ) (f : Line) → OnLine k (section_checks s t k f)
eight s t k f =
    one_more refl (never 3)
    (one_more refl (never 4)
    (one_more refl (never 5)
    (one_more refl (never 6)
    (one_more refl (never 7)
    (one_more refl (never 8)
    (one_more refl (never 9)
    (one_more refl (never 10) no_more)))))))

pub section-told : (s : Section) (t : Tables) (k : ℕ) (f : Line) → first_of (section_checks s t k f) ≡ tells (line_reason s t f) k
unfolding line_reason first_reason
section-told s t k f = one_line k (eight s t k f)

-- the checks of a line are those of its section
pub in-section : (t : Tables) (k : ℕ) (f : Line) (s : Section) → section_of f ≡ s → line_refusal t k f ≡ first_of (section_checks s t k f)
unfolding line_refusal
in-section t k f s e = ap (λ (x : Section). first_of (section_checks x t k f)) e

-- a line of section s is refused for its reason
pub refuses : (line : List ℕ) (t : Tables) (s : Section) (n : Reason) (k : ℕ) → section_of (split 9 line) ≡ s → line_reason s t (split 9 line) ≡ n → Refuses t k line (tells n k)
refuses line t s n k e q =
    in-section t k (split 9 line) s e ∙ section-told s t k (split 9 line) ∙ ap (λ (m : Reason). tells m k) q
