-- What is left of a text, as a reader's loop knows it.
use Rattle.std.specs.Prelude.{ℕ, ◌-◌, ◌≤◌, ◌<◌, ◌≡◌, List, length, get_or}

-- The text from a place on is empty or ends with byte 10.
pub record Lined (text : List ℕ) (at : ℕ) : Type 0 where
  pub within : at ≤ length text
  pub last : at < length text → get_or text (length text - 1) 0 ≡ 10
