-- Each contract of this crate leaves one answer.
use Prim.Native.Nat.{ℕ}
use mathlib.Core.Path.{◌≡◌, refl, sym, ap, ◌∙◌}
use mathlib.Core.Bool.{true, false}
use mathlib.Core.List.{List, []}
use Rattle.std.specs.Prelude.{Option, Result, ⊤}
use Rattle.papers.specs.declared.refused.Field.{Field}
use Rattle.papers.specs.declared.refused.Refused.{Refused}
use Rattle.papers.specs.refused.Refused.{told_refusal}
use Rattle.papers.proofs.Refusals.{told-injective}
use Rattle.tables.specs.declared.Kind.{Kind}
use Rattle.tables.specs.declared.Controller.{Controller}
use Rattle.tables.specs.declared.Stability.{Stability}
use Rattle.determined.specs.Determined.{Determines}
use Rattle.determined.proofs.Equal.{equal}
use Rattle.text.specs.Parts.{split, part}
use Rattle.text.specs.Words.{cell_word}
use Rattle.tables.specs.declared.Tables.{Tables}
use Rattle.tables.proofs.Given.{given}
use Rattle.lines.proofs.Sections.{not_in}
use Rattle.text.specs.Line.{field, says}
use Rattle.lines.specs.Line.{Section, message, event, state, cell, unknown, section_of}
use Rattle.lines.specs.words.Found.{found_controller}
use Rattle.lines.specs.Checks.{later_read}
use Rattle.lines.specs.shapes.Shapes.{message_shape_lem, event_shape_lem, state_shape_lem}
use Rattle.lines.specs.misplaced.Place.{Misplaced}
use lib.ListN.{length}
use Rattle.text.specs.Fields.{fields_of}
use Rattle.lines.specs.next.Next.{NextDetermined}

module _ (line : List ℕ) (i : ℕ) where
  pub controller-at-determined : Determines (λ (r : Option Controller). r ≡ found_controller (field (split 9 line) i))
  controller-at-determined = equal _

module _ (line : List ℕ) where
  pub message-shape-determined : Determines (λ (r : Result Kind Field). r ≡ message_shape_lem (split 9 line))
  message-shape-determined = equal _

  pub event-shape-determined : Determines (λ (r : Result ⊤ Field). r ≡ event_shape_lem (split 9 line))
  event-shape-determined = equal _

  pub state-shape-determined : Determines (λ (r : Result (Controller × Stability) Field). r ≡ state_shape_lem (split 9 line))
  state-shape-determined = equal _

-- the end of the next line, and the bytes of the line, whose fields follow from them
pub next-line-determined : NextDetermined
next-line-determined text at r s p q =
    let e : r.end ≡ s.end = p.ends ∙ sym q.ends in
    let b : r.line.bytes.now ≡ s.line.bytes.now = p.line ∙ ap (part text at) e ∙ sym q.line in
    (e, b, r.line.are ∙ ap (λ (l : List ℕ). fields_of l 0 (length l)) b ∙ sym s.line.are)

-- a line that is no cell, behind some tables with a cell
pub misplaced-determined : (k : ℕ) (line : List ℕ) → says (split 9 line) 0 cell_word ≡ false → Determines (Misplaced k line)
misplaced-determined k line w r s p q = go (section_of (split 9 line)) refl
  where
    t : Tables
    t = given [] 0 [] 0 [] 0 [] 1

    late : later_read (section_of (split 9 line)) t ≡ true → r ≡ s
    late h = sym (p.later t h) ∙ q.later t h

    go : (x : Section) → section_of (split 9 line) ≡ x → r ≡ s
    go message e = late (ap (λ (y : Section). later_read y t) e)
    go event e = late (ap (λ (y : Section). later_read y t) e)
    go state e = late (ap (λ (y : Section). later_read y t) e)
    go cell e = absurd (not_in cell (split 9 line) w e)
    go unknown e = sym (p.no_section e t) ∙ q.no_section e t

-- and so the refusal itself: two of which the same is told are one
pub misplaced-result-determined : (k : ℕ) (line : List ℕ) → says (split 9 line) 0 cell_word ≡ false → Determines (λ (r : Refused). Misplaced k line (told_refusal r))
misplaced-result-determined k line w r s p q = told-injective r s (misplaced-determined k line w (told_refusal r) (told_refusal s) p q)
