-- A line that is not refused passes each of the eight checks.
use Prim.Native.Nat.{ℕ, ◌<◌}
use mathlib.Core.Path.{◌≡◌, ap, ◌∙◌}
use mathlib.Core.Bool.{true, false}
use mathlib.Core.List.{List}
use native.Mathlib.Omega.{arith}
use borrow.Author.Tests.{not-false}
use Rattle.papers.specs.declared.Refusal.{Refusal}
use Rattle.papers.specs.Checks.{first_of}
use Rattle.papers.proofs.Checks.{passed-by}
use Rattle.tables.specs.declared.Tables.{Tables}
use Rattle.text.specs.Parts.{split}
use Rattle.text.specs.Line.{Line}
use Rattle.lines.specs.Line.{Section, section_of}
use Rattle.lines.specs.Checks.{shaped, later_read, bad_name, is_not_known, twice, full, stall_in_stable, conflict, section_checks, line_refusal}
use Rattle.lines.specs.Told.{Refuses}

pub record Passed (s : Section) (t : Tables) (f : Line) : Type 0 where
  pub shape : shaped s f ≡ true
  pub order : later_read s t ≡ false
  pub name : bad_name s f ≡ false
  pub known : is_not_known s t f ≡ false
  pub once : twice s t f ≡ false
  pub room : full s t ≡ false
  pub stable : stall_in_stable s t f ≡ false
  pub agrees : conflict s t f ≡ false

not-zero : (n : ℕ) → 0 < n → n ≡ 0 → ⊥
not-zero n h e = omega arith

pub passed : (s : Section) (t : Tables) (k : ℕ) (f : Line) → (first_of (section_checks s t k f)).number ≡ 0 → Passed s t f
passed s t k f e =
    let p4 = passed-by _ _ (not-zero 4 (omega arith)) e in
    let p5 = passed-by _ _ (not-zero 5 (omega arith)) p4.1 in
    let p6 = passed-by _ _ (not-zero 6 (omega arith)) p5.1 in
    let p7 = passed-by _ _ (not-zero 7 (omega arith)) p6.1 in
    let p8 = passed-by _ _ (not-zero 8 (omega arith)) p7.1 in
    let p9 = passed-by _ _ (not-zero 9 (omega arith)) p8.1 in
    let p10 = passed-by _ _ (not-zero 10 (omega arith)) p9.1 in
    let p11 = passed-by _ _ (not-zero 11 (omega arith)) p10.1 in
    record {
      shape = not-false (shaped s f) p4.0;
      order = p5.0;
      name = p6.0;
      known = p7.0;
      once = p8.0;
      room = p9.0;
      stable = p10.0;
      agrees = p11.0;
    }

pub line-passed : (t : Tables) (k : ℕ) (line : List ℕ) (why : Refusal) → Refuses t k line why → why.number ≡ 0 → Passed (section_of (split 9 line)) t (split 9 line)
unfolding line_refusal
line-passed t k line why f e = passed (section_of (split 9 line)) t k (split 9 line) (ap (λ (r : Refusal). r.number) f ∙ e)
