-- How a line behind a later section is refused.
use Prim.Native.Nat.{ℕ}
use mathlib.Core.Path.{◌≡◌, refl, sym, ap, ◌∙◌}
use mathlib.Core.Bool.{Bool, true, false, not, cond}
use mathlib.Core.List.{List}
use native.Mathlib.Omega.{arith}
use Rattle.text.specs.Parts.{split}
use Rattle.papers.specs.declared.Refusal.{Refusal}
use Rattle.papers.specs.Checks.{refusal, field_refusal}
use Rattle.tables.specs.declared.Tables.{Tables}
use Rattle.text.specs.Line.{Line}
use Rattle.lines.specs.Line.{Section, unknown, section_of}
use Rattle.lines.specs.Checks.{shaped, shape_field, later_read, bad_name, name_field, is_not_known, unknown_field, twice, full, stall_in_stable, conflict}
use Rattle.lines.specs.shapes.Shapes.{shape_told}
use Rattle.lines.specs.misplaced.Place.{late_refusal, late_told, Misplaced}
use Rattle.lines.proofs.Reasons.{reason, tells, eight_of, line_reason, refuses}

turned : (b : Bool) (x : ℕ) → cond (not b) (reason 4 x) (reason 5 0) ≡ cond b (reason 5 0) (reason 4 x)
turned true x = refl
turned false x = refl

late-reason : (s : Section) (t : Tables) (f : Line) → later_read s t ≡ true → line_reason s t f ≡ cond (shaped s f) (reason 5 0) (reason 4 (shape_field s f))
unfolding line_reason
late-reason s t f e =
    ap
    (λ (b : Bool). eight_of (shape_field s f) (name_field s) (unknown_field s t f) (name_field s) (not (shaped s f)) b (bad_name s f) (is_not_known s t f) (twice s t f) (full s t) (stall_in_stable s t f) (conflict s t f)) e
    ∙ turned (shaped s f) (shape_field s f)

unknown-reason : (t : Tables) (f : Line) → line_reason unknown t f ≡ reason 4 (shape_field unknown f)
unfolding line_reason
unknown-reason t f = refl

told-late : (b : Bool) (x k : ℕ) → tells (cond b (reason 5 0) (reason 4 x)) k ≡ cond b (refusal 5 k) (field_refusal 4 k x)
told-late true x k = refl
told-late false x k = refl

refused-late : (b : Bool) (x k : ℕ) → (cond b (refusal 5 k) (field_refusal 4 k x)).number ≡ 0 → ⊥
refused-late true x k z = omega arith
refused-late false x k z = omega arith

-- from the section
pub misplaced-when : (k : ℕ) (line : List ℕ) (why : Refusal) (s : Section) → section_of (split 9 line) ≡ s → why ≡ late_refusal s k (split 9 line) → Misplaced k line why
misplaced-when k line why s e q =
    let f = split 9 line in
    record {
      some = λ z. refused-late (shaped s f) (shape_field s f) k (sym (ap (λ (x : Refusal). x.number) q) ∙ z);
      later = λ t h. refuses line t s (cond (shaped s f) (reason 5 0) (reason 4 (shape_field s f))) k e (late-reason s t f (ap (λ (x : Section). later_read x t) (sym e) ∙ h))
          ∙ told-late (shaped s f) (shape_field s f) k ∙ sym q;
      no_section = λ h t. refuses line t unknown (reason 4 (shape_field unknown f)) k h (unknown-reason t f)
          ∙ sym (q ∙ ap (λ (x : Section). late_refusal x k f) (sym e ∙ h));
    }

-- by what is told of its shape
pub late-by_shape : {A : Type 0} (s : Section) (k : ℕ) (f : Line) (words : A) → late_told (shape_told s f words) k ≡ late_refusal s k f
late-by_shape s k f words = go (shaped s f) refl
  where
    go : (b : Bool) → shaped s f ≡ b → late_told (shape_told s f words) k ≡ late_refusal s k f
    go true e = rw e refl
    go false e = rw e refl
