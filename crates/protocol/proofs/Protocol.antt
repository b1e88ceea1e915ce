-- The whole reading: the opening, then the lines behind it.
use Prim.Native.Nat.{ℕ, ◌+◌}
use mathlib.Core.Path.{◌≡◌, refl, sym, ap, subst, ◌∙◌}
use mathlib.Core.List.{List}
use native.Mathlib.Omega.{arith}
use lib.ListN.{length, drop}
use Rattle.text.specs.Parts.{place, lines}
use Rattle.text.specs.Words.{protocol_header}
use Rattle.papers.specs.declared.Refusal.{Refusal}
use Rattle.papers.specs.Opening.{opening_of}
use Rattle.papers.proofs.OpeningLaws.{opened}
use Rattle.tables.specs.declared.Tables.{Tables}
use Rattle.tables.specs.Tables.{cleared_tables}
use Rattle.lines.specs.Line.{message}
use Rattle.protocol.specs.whole.Whole.{Reading, refused, unless}
use Rattle.protocol.specs.sections.Lines.{read_lines}
use Rattle.protocol.specs.whole.Kept.{Kept}
use Rattle.protocol.proofs.whole.Unless.{unless-passed, unless-refused}
use Rattle.protocol.specs.sections.Sections.{Placed, Stage}
use Rattle.protocol.proofs.sections.Kept.{kept-cleared}
use Rattle.protocol.specs.Reading.{read_protocol_lem}

-- The lines behind the header start at the place `at`, and t is cleared.
pub record Begun (text : List ℕ) (at : ℕ) (t : Tables) : Type 0 where
  pub on : read_protocol_lem text ≡ read_lines 2 (lines (drop at text)) t
  pub kept : Kept t
  pub placed : Placed text at 2
  pub stage : Stage message text at t

module _ (text : List ℕ) where
  abbrev pub body : Reading
  body = read_lines 2 (drop 1 (lines text)) cleared_tables

  pub not_opened : (r : Refusal) → r ≡ opening_of protocol_header text → (r.number ≡ 0 → ⊥) → read_protocol_lem text ≡ refused r
  unfolding read_protocol_lem
  not_opened r e g = ap (λ (x : Refusal). unless x body) (sym e) ∙ unless-refused r body g

  pub begun : (r : Refusal) → r ≡ opening_of protocol_header text → r.number ≡ 0 → (e : ℕ) → e ≡ place 10 text 0 (length text) → Begun text (e + 1) cleared_tables
  unfolding read_protocol_lem cleared_tables
  begun r q z e w =
      let o = opened protocol_header text (ap (λ (x : Refusal). x.number) (sym q) ∙ z) in
      subst (λ (k : ℕ). Begun text (k + 1) cleared_tables) (sym w)
      (record {
        on = ap (λ (x : Refusal). unless x body) (sym q) ∙ unless-passed r body z ∙ ap (λ (ls : List (List ℕ)). read_lines 2 ls cleared_tables) (sym o.rest);
        kept = kept-cleared;
        placed = record { lined = o.more; small = o.small; counted = omega arith };
        stage = (refl, refl, refl);
      })
