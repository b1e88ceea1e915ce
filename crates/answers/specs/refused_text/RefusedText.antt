-- What a program prints on a refusal: "Both programs print `refused` number paper line on a refusal, alone.", and since C-14 the field, "as a last field".
use Rattle.std.specs.Prelude.{ℕ, List, ◌++◌}
use Rattle.text.specs.Words.{refused_word, tab, newline}
use Rattle.text.specs.Written.{decimal}
use Rattle.papers.specs.declared.Refusal.{Refusal}

-- A tab, and a number behind it.
unfoldable pub tabbed_number : ℕ → List ℕ
tabbed_number n = tab ++ decimal n

unfoldable pub refused_text_lem : Refusal → ℕ → List ℕ
refused_text_lem why paper = ((((refused_word ++ tabbed_number why.number) ++ tabbed_number paper) ++ tabbed_number why.line) ++ tabbed_number why.field) ++ newline
