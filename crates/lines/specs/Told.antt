-- What is told of one line: how it is refused.
use Rattle.std.specs.Prelude.{ℕ, ◌≡◌, List}
use Rattle.text.specs.Parts.{split}
use Rattle.papers.specs.declared.Refusal.{Refusal}
use Rattle.tables.specs.declared.Tables.{Tables}
use Rattle.lines.specs.Checks.{line_refusal}

-- Line k is refused so, after t was read; `none` where it is not refused.
abbrev pub Refuses : Tables → ℕ → List ℕ → Refusal → Type 0
Refuses t k line why = line_refusal t k (split 9 line) ≡ why
