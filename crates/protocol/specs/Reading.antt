-- Reading a protocol text.
use Rattle.std.specs.Prelude.{ℕ, List, drop}
use Rattle.text.specs.Parts.{lines}
use Rattle.text.specs.Words.{protocol_header}
use Rattle.papers.specs.Opening.{opening_of}
use Rattle.tables.specs.Tables.{cleared_tables}
use Rattle.protocol.specs.whole.Whole.{Reading, unless}
use Rattle.protocol.specs.sections.Lines.{read_lines}

-- The order: 1, 2, 3, then the first bad line; then 12, 13.
unfoldable pub read_protocol_lem : List ℕ → Reading
read_protocol_lem text =
    let body = read_lines 2 (drop 1 (lines text)) cleared_tables in
    unless (opening_of protocol_header text) body
