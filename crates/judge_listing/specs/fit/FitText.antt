-- How the listing of a judgement begins, and the whole of it for a fit mapping (01-scope.md, "Two listings, whole").
-- "It prints `vn-judge>1`, then `fit`".
use Rattle.std.specs.Prelude.{ℕ, ◌≡◌, List, ◌++◌, length}
use Rattle.text.specs.Words.{judge_header, fit_word, newline}

-- The header and the verdict, a line each.
unfoldable pub verdict_head : List ℕ → List ℕ
verdict_head verdict = ((judge_header ++ newline) ++ verdict) ++ newline

-- Fit: nothing follows the verdict.
unfoldable pub fit_text : List ℕ
fit_text = verdict_head fit_word

-- "Every program lends room for the longest answer within the limits." A fit mapping takes 15 bytes.
abbrev pub FitLength : Type 0
FitLength = length fit_text ≡ 15
