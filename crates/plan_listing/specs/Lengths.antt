-- How long the texts of a listing are.
use Rattle.std.specs.Prelude.{ℕ, ◌≤◌, ◌<◌, ◌≡◌, List, length, get_or}
use Rattle.rules.specs.Rules.{MessageNo, NetworkNo}
use Rattle.text.specs.Name.{name_text}
use Rattle.tables.specs.declared.MessageRow.{MessageRow}
use Rattle.tables.specs.Tables.{no_message_row}
use Rattle.plan_listing.specs.PlanText.{class_three, class_two}

-- n is the length of the text, which has at most `most` bytes.
pub record TextLength (text : List ℕ) (most n : ℕ) : Type 0 where
  pub exact : n ≡ length text
  pub few : n ≤ most

-- ---- the longest listings: "Every program lends room for the longest answer within the limits."

-- Each name has at most 24 bytes.
abbrev pub ShortNames : List MessageRow → Type 0
ShortNames rows = (i : ℕ) → length (name_text (get_or rows i no_message_row).name) ≤ 24

-- The lines before the messages' take at most 30 bytes, each of at most 64 messages at most 32.
abbrev pub LongestMaps : Type 0
LongestMaps =
    (messages : List MessageRow) (networks : List NetworkNo) (count : ℕ) → ShortNames messages → length messages ≤ 64
    → ((i : ℕ) → i < length networks → get_or networks i 0 < 64) → count ≤ 64 → length (class_three messages networks count) ≤ 2078

-- The lines take 24 bytes without the names, each of at most 64 names at most 25 with its tab.
abbrev pub LongestCycle : Type 0
LongestCycle = (rows : List MessageRow) (cycle : List MessageNo) → ShortNames rows → length cycle ≤ 64 → length (class_two rows cycle) ≤ 1624
