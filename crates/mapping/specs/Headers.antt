-- The two headers of a mapping text, and their limits (02-change-requests.md, C-15): "A mapping under the new header `vn-mapping` 2 may use the
-- new limits; under header 1 its 33rd `map` line is FULL and a number above 31 is NETWORK. Header 2's 65th `map` line is FULL".
use Rattle.std.specs.Prelude.{ℕ, cond, List, eqb}
use Rattle.text.specs.Words.{mapping_header, mapping_header2}
use Rattle.papers.specs.Opening.{opening_of}

-- A header: the first line, and how many `map` lines may follow. So many networks there are too, numbered from 0.
pub record Header : Type 0 where
  pub line : List ℕ
  pub most : ℕ

abbrev pub header1 : Header
header1 = record { line = mapping_header; most = 32 }

abbrev pub header2 : Header
header2 = record { line = mapping_header2; most = 64 }

-- The header that a text is read under: the second where the text opens with it, and else the first.
unfoldable pub header_of : List ℕ → Header
header_of text = cond (eqb (opening_of mapping_header2 text).number 0) header2 header1
