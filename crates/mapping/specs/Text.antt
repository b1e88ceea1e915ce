-- The mapping text that gives each message a network: the header, and a line for each message in message order.
use Rattle.std.specs.Prelude.{ℕ, ◌≤◌, ◌<◌, ◌≡◌, true, List, [], ◌∷◌, ◌++◌, length, get_or}
use Rattle.text.specs.Name.{name_rule, name_text}
use Rattle.text.specs.Words.{map_word, tab, newline}
use Rattle.text.specs.Written.{decimal}
use Rattle.tables.specs.declared.MessageRow.{MessageRow}
use Rattle.tables.specs.Tables.{no_message_row}
use Rattle.mapping.specs.Headers.{Header}

-- "`map` name network"
unfoldable pub map_fields : List ℕ → ℕ → List ℕ
map_fields name n = (((map_word ++ tab) ++ name) ++ tab) ++ decimal n

unfoldable pub map_texts : List MessageRow → List ℕ → List ℕ
map_texts [] ns = []
map_texts (m ∷ ms) [] = []
map_texts (m ∷ ms) (n ∷ ns) = (map_fields (name_text m.name) n ++ newline) ++ map_texts ms ns

unfoldable pub mapping_text : Header → List MessageRow → List ℕ → List ℕ
mapping_text header ms ns = (header.line ++ newline) ++ map_texts ms ns

-- The networks of the messages can be written under a header that allows `most` of each: there is a network for each message, and the names keep
-- the name rule.
pub record Writable (most : ℕ) (ms : List MessageRow) (ns : List ℕ) : Type 0 where
  pub few : length ms ≤ most
  pub long : length ns ≡ length ms
  pub named : (i : ℕ) → i < length ms → name_rule (name_text (get_or ms i no_message_row).name) ≡ true
  pub below : (i : ℕ) → i < length ns → get_or ns i 0 < most
