-- The lines that are not refused keep the tables in order.
use Prim.Native.Nat.{ℕ, suc, ◌+◌}
use mathlib.Core.Path.{◌≡◌, sym, ap, ◌∙◌}
use mathlib.Core.List.{List, [], ◌∷◌}
use native.Mathlib.Omega.{arith}
use native.Mathlib.Nat.{add-zero}
use lib.ListN.{length, get_or}
use Rattle.text.specs.Parts.{split}
use Rattle.tables.specs.declared.Tables.{Tables}
use Rattle.lines.specs.Checks.{line_refusal}
use Rattle.protocol.specs.sections.Lines.{stored}
use Rattle.protocol.specs.whole.Kept.{Kept}
use Rattle.reading_laws.proofs.protocols.KeptLine.{kept_line}
use Rattle.reading_laws.specs.protocols.Promises.{after, Unrefused}

pub kept-after : (ls : List (List ℕ)) (t : Tables) (k : ℕ) → Kept t → Unrefused t k ls (length ls) → Kept (after (length ls) ls t)
unfolding after
kept-after [] t k h u = h
kept-after (l ∷ ls) t k h u =
    kept-after ls (stored t (split 9 l)) (suc k)
    (kept_line t k (split 9 l) h (ap (λ (n : ℕ). (line_refusal t n (split 9 l)).number) (sym (add-zero k)) ∙ u.lines 0 (omega arith)))
    (record {
      lines = λ i g.
          ap (λ (n : ℕ). (line_refusal (after i ls (stored t (split 9 l))) n (split 9 (get_or ls i []))).number) (let p : suc k + i ≡ k + suc i = omega arith in p)
          ∙ u.lines (suc i) (omega arith);
    })
