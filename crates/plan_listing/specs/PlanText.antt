-- The listing of a plan (01-scope.md, "Two listings, whole").
-- "It prints a header, the class, the least count, then name and network of each message."
-- "For class 2 a single line follows `class>2`: `cycle` and the names in order, parted by tabs."
use Rattle.std.specs.Prelude.{ℕ, ◌<◌, ◌≤◌, List, [], ◌∷◌, ◌++◌, map, get_or, take, length}
use Rattle.rules.specs.declared.Message.{Message}
use Rattle.rules.specs.declared.Network.{Network}
use Rattle.rules.specs.Rules.{MessageNo, NetworkNo}
use Rattle.text.specs.Name.{name_text}
use Rattle.text.specs.Words.{plan_header, class_word, networks_word, cycle_word, tab, newline}
use Rattle.text.specs.Written.{decimal}
use Rattle.tables.specs.declared.MessageRow.{MessageRow}
use Rattle.tables.specs.Tables.{no_message_row}
use Rattle.tables.specs.Cells.{number}
use Rattle.mapping.specs.Text.{map_fields, map_texts}

-- The name of message m.
unfoldable pub name_at : List MessageRow → MessageNo → List ℕ
name_at rows m = name_text (get_or rows m no_message_row).name

-- The line of a word and a number.
unfoldable pub number_line : List ℕ → ℕ → List ℕ
number_line word n = ((word ++ tab) ++ decimal n) ++ newline

-- The header and the class, a line each.
unfoldable pub class_head : ℕ → List ℕ
class_head class = (plan_header ++ newline) ++ number_line class_word class

-- The line of a message and its network.
abbrev pub map_text : List ℕ → NetworkNo → List ℕ
map_text name n = map_fields name n ++ newline

-- Class 3: the least count, then a line for each message, as a mapping text has it.
unfoldable pub class_three : List MessageRow → List NetworkNo → ℕ → List ℕ
class_three messages networks count = (class_head 3 ++ number_line networks_word count) ++ map_texts messages networks

-- Each of these messages' names, behind a tab.
unfoldable pub names_text : List MessageRow → List MessageNo → List ℕ
names_text rows [] = []
names_text rows (m ∷ l) = (tab ++ name_at rows m) ++ names_text rows l

-- `cycle` and the names in order.
unfoldable pub cycle_line : List MessageRow → List MessageNo → List ℕ
cycle_line rows cycle = (cycle_word ++ names_text rows cycle) ++ newline

-- Class 2: the line of the shown cycle.
unfoldable pub class_two : List MessageRow → List MessageNo → List ℕ
class_two rows cycle = class_head 2 ++ cycle_line rows cycle

-- ---- the numbers that the code keeps in types of their own

-- A network's number.
abbrev pub network_number : Network → NetworkNo
network_number n = n.0

-- The numbers of these messages, or networks.
abbrev pub message_numbers : List Message → List MessageNo
message_numbers l = map number l

abbrev pub network_numbers : List Network → List NetworkNo
network_numbers l = map network_number l

-- The first n of them.
unfoldable pub first_messages : ℕ → List Message → List MessageNo
first_messages n l = message_numbers (take n l)

unfoldable pub first_networks : ℕ → List Network → List NetworkNo
first_networks n l = network_numbers (take n l)

-- Each of the first n of these messages has a row.
abbrev pub MessagesBelow : ℕ → List MessageNo → Type 0
MessagesBelow n l = (i : ℕ) → i < n → get_or l i 0 < 64

-- At most 64 messages, each of which has one of at most 64 rows.
pub record HaveRows (rows : List MessageRow) (messages : List Message) : Type 0 where
  pub few_rows : length rows ≤ 64
  pub few : length messages ≤ 64
  pub here : (i : ℕ) → i < length messages → get_or (message_numbers messages) i 0 < length rows
