-- The next line of a protocol text.
use Rattle.std.specs.Prelude.{ℕ, ◌≡◌, List, length}
use Rattle.text.specs.Parts.{part, place}
use Rattle.lines.specs.declared.next.NextLine.{NextLine}

-- Where the line that starts at a place ends, and the line. A record has the places of its line's fields.
pub record Next (text : List ℕ) (at : ℕ) (r : NextLine) : Type 0 where
  pub ends : r.end ≡ place 10 text at (length text)
  pub line : r.line.bytes.now ≡ part text at r.end

-- Two such lines have the same end, the same bytes and the same fields.
abbrev pub NextDetermined : Type 0
NextDetermined = (text : List ℕ) (at : ℕ) (r s : NextLine) → Next text at r → Next text at s
    → (r.end ≡ s.end) × (r.line.bytes.now ≡ s.line.bytes.now) × (r.line.fields ≡ s.line.fields)
