-- The tables of an accepted text stand for that text and no other.
use Prim.Native.Nat.{ℕ, suc, ◌-◌}
use mathlib.Core.Path.{◌≡◌, refl, sym, ap, ◌∙◌}
use mathlib.Core.Bool.{Bool, true, false, cond}
use mathlib.Core.List.{List, [], ◌∷◌, ◌++◌, map, append_assoc, append-nil}
use native.Mathlib.Omega.{arith}
use lib.ListN.{length, drop}
use lib.Dec.{eqb}
use borrow.Author.Tests.{eqb-true, eqb-false}
use Rattle.text.proofs.Parts.{get_or-within}
use Rattle.text.specs.Parts.{split, lines}
use Rattle.text.specs.Words.{protocol_header}
use Rattle.papers.specs.declared.Refusal.{Refusal}
use Rattle.papers.specs.Opening.{opening_of}
use Rattle.papers.proofs.OpeningLaws.{opened}
use Rattle.tables.specs.declared.Tables.{Tables}
use Rattle.tables.specs.Tables.{cleared_tables}
use Rattle.text.specs.Line.{Line}
use Rattle.lines.specs.Line.{section_of}
use Rattle.lines.specs.Checks.{line_refusal}
use Rattle.protocol.specs.whole.Whole.{Reading}
use Rattle.protocol.specs.whole.Whole.{refused, accepted, unless, whole_refusal}
use Rattle.protocol.specs.sections.Lines.{stored, read_lines}
use Rattle.protocol.specs.Reading.{read_protocol_lem}
use Rattle.reading_laws.specs.protocols.Written.{tabbed, ended, records, protocol_text, WrittenBack, ReadAgain, SameText}
use Rattle.protocol.proofs.sections.Passed.{Passed, line-passed}
use Rattle.reading_laws.proofs.protocols.WrittenText.{tabbed-fields, ended-lines}
use Rattle.reading_laws.proofs.protocols.WrittenCells.{Sized}
use Rattle.reading_laws.proofs.protocols.WrittenRecords.{grown, sized-cleared, records-cleared}

-- ---- nothing was refused

pub unless-number : (r : Refusal) (a : Reading) → (unless r a).refusal.number ≡ 0 → (r.number ≡ 0) × (unless r a ≡ a)
unless-number r a e = go (eqb r.number 0) refl e
  where
    go : (b : Bool) → eqb r.number 0 ≡ b → (cond b a (refused r)).refusal.number ≡ 0 → (r.number ≡ 0) × (cond b a (refused r) ≡ a)
    go true q k = (eqb-true r.number 0 q, refl)
    go false q k = absurd (eqb-false r.number 0 q k)

passed-line : (t : Tables) (k : ℕ) (l : List ℕ) → (line_refusal t k (split 9 l)).number ≡ 0 → Passed (section_of (split 9 l)) t (split 9 l)
passed-line t k l e = line-passed t k l (line_refusal t k (split 9 l)) refl e

-- ---- the lines

-- what was read are the records of the lines
pub read-records : (k : ℕ) (ls : List (List ℕ)) (t : Tables) → Sized t → (read_lines k ls t).refusal.number ≡ 0
    → records (read_lines k ls t).tables ≡ records t ++ map (split 9) ls
unfolding read_lines
read-records k [] t z e =
    let q = unless-number (whole_refusal t) (accepted t) e in
    ap (λ (r : Reading). records r.tables) q.1 ∙ sym (append-nil (records t))
read-records k (l ∷ ls) t z e =
    let f = split 9 l in
    let q = unless-number (line_refusal t k f) (read_lines (suc k) ls (stored t f)) e in
    let g = grown t z f (section_of f) refl (passed-line t k l q.0) in
    ap (λ (r : Reading). records r.tables) q.1
    ∙ read-records (suc k) ls (stored t f) g.sized (ap (λ (r : Reading). r.refusal.number) (sym q.1) ∙ e)
    ∙ ap (λ (rs : List Line). rs ++ map (split 9) ls) g.more ∙ append_assoc (records t) (f ∷ []) (map (split 9) ls)

-- ---- the text

pub written : WrittenBack
unfolding read_protocol_lem protocol_text
written x e =
    let ls = drop 1 (lines x) in
    let q = unless-number (opening_of protocol_header x) (read_lines 2 ls cleared_tables) e in
    let o = opened protocol_header x q.0 in
    let rs = read-records 2 ls cleared_tables sized-cleared (ap (λ (r : Reading). r.refusal.number) (sym q.1) ∙ e) in
    let all : records (read_protocol_lem x).tables ≡ map (split 9) ls =
    ap (λ (r : Reading). records r.tables) q.1 ∙ rs ∙ ap (λ (a : List Line). a ++ map (split 9) ls) records-cleared in
    sym (ended-lines x (get_or-within x (length x - 1) 10 0 (omega (arith, o.some)) ∙ o.last))
    ∙ ap ended o.first
    ∙ ap (λ (m : List (List ℕ)). ended (protocol_header ∷ m)) (sym (tabbed-fields ls) ∙ ap (map tabbed) (sym all))

pub read_again : ReadAgain
read_again x e = ap read_protocol_lem (sym (written x e))

pub same_text : SameText
same_text x y p q e = written x p ∙ ap protocol_text e ∙ sym (written y q)
