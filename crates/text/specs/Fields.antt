-- The fields of a line, as places of the text that it stands in.
use Rattle.std.specs.Prelude.{ℕ, ◌+◌, ◌-◌, List, [], ◌∷◌, ◌++◌, length, take, replicate}
use Rattle.text.specs.declared.Fields.{Fields}
use Rattle.text.specs.declared.Span.{Span}
use Rattle.text.specs.Parts.{part, split}

-- What is made of each part, by the place where it starts and its length. One byte stands between two parts.
unfoldable pub marks : {A : Type 0} → (ℕ → ℕ → A) → ℕ → List (List ℕ) → List A
marks f at [] = []
marks f at (p ∷ ps) = f at (length p) ∷ marks f (at + length p + 1) ps

-- Where a part of n bytes starts, and where it ends.
abbrev pub span : ℕ → ℕ → Span
span at n = record { from = at; to = at + n }

-- The span of no field.
abbrev pub no_span : Span
no_span = record { from = 0; to = 0 }

-- Such spans behind, up to fifteen.
abbrev pub padded : List Span → List Span
padded l = l ++ replicate (15 - length l) no_span

-- The fields of the line: the parts between tabs.
abbrev pub line_fields_lem : List ℕ → ℕ → ℕ → List (List ℕ)
line_fields_lem text a e = split 9 (part text a e)

-- The first fifteen of them, as they are kept.
unfoldable pub fields_of : List ℕ → ℕ → ℕ → Fields
fields_of text a e =
    let kept = take 15 (line_fields_lem text a e) in
    record { count = length kept; spans = padded (marks span a kept) }
