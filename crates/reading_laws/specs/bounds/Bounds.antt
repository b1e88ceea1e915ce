-- How large the numbers of a refusal can be: a refusal number of a paper is at most 15, and the field that it tells at most 14. A text of at most 49,152 bytes has at most
-- that many lines; NO_END tells the line after the last end, and UNMATCHED the line after the last. So a line has its place in 16 bits.
use Rattle.std.specs.Prelude.{ℕ, ◌≤◌, ◌<◌, ◌≡◌, true, List, length, get_or}
use Rattle.text.specs.Name.{name_rule, name_text}
use Rattle.papers.specs.declared.Refusal.{Refusal}
use Rattle.tables.specs.Tables.{no_message_row}
use Rattle.tables.specs.declared.MessageRow.{MessageRow}
use Rattle.tables.specs.declared.Tables.{Tables}
use Rattle.mapping.specs.Reading.{read_mapping_lem}
use Rattle.protocol.specs.Reading.{read_protocol_lem}

abbrev pub Low : Refusal → Type 0
Low r = (r.number ≤ 15) × (r.line ≤ 49153) × (r.field ≤ 14)

abbrev pub ProtocolLow : Type 0
ProtocolLow = (text : List ℕ) → Low (read_protocol_lem text).refusal

abbrev pub MappingLow : Type 0
MappingLow = (messages : List MessageRow) (text : List ℕ) → Low (read_mapping_lem messages text).refusal

-- The rows of messages: there are 64, the name of each declared message keeps the name rule, and no row has a longer name.
pub record Named (t : Tables) : Type 0 where
  pub long : length t.messages ≡ 64
  pub short : (i : ℕ) → length (name_text (get_or t.messages i no_message_row).name) ≤ 24
  pub names : (i : ℕ) → i < t.message_count → name_rule (name_text (get_or t.messages i no_message_row).name) ≡ true

-- So it is with the tables of an accepted text.
abbrev pub NamesKept : Type 0
NamesKept = (text : List ℕ) → (read_protocol_lem text).refusal.number ≡ 0 → Named (read_protocol_lem text).tables
