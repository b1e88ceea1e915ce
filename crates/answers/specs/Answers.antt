-- What the calls on texts answer (01-scope.md, "Refusal numbers").
use Rattle.std.specs.Prelude.{ℕ, ◌+◌, ◌*◌, ◌<◌, ◌≤◌, ◌/◌, ◌%◌, ◌≡◌, cond, List, length, eqb}
use Rattle.text.specs.Written.{wrote}
use Rattle.papers.specs.declared.Refusal.{Refusal}
use Rattle.papers.specs.Checks.{refusal, none}
use Rattle.answers.specs.declared.Answer.{Answer}

-- ---- the three kinds of answer

-- "A refusal returns number, paper, line and length 0." "Every other number returned with a refusal is 0."
unfoldable pub refused_at_lem : Refusal → ℕ → Answer
refused_at_lem why paper = record { refusal = why; paper = paper; length = 0; needed = 0 }

-- "ROOM, COUNT and STRAY have paper 0, line 0; ROOM also returns the length needed, as a number of its own."
unfoldable pub no_room_lem : ℕ → Answer
no_room_lem needed = record { refusal = refusal 16 0; paper = 0; length = 0; needed = needed }

unfoldable pub finished : ℕ → Answer
finished n = record { refusal = none; paper = 0; length = n; needed = 0 }

-- ---- the answer and the lent bytes, which are `old` at entry and `new` at exit

-- "A refusal returns number, paper, line and length 0, and no output byte changes."
pub record Refused (why : Refusal) (paper : ℕ) (old new : List ℕ) (r : Answer) : Type 0 where
  pub answer : r ≡ refused_at_lem why paper
  pub bytes : new ≡ old

-- 16, ROOM: "the finished text or list is longer than the lent output".
pub record NoRoom (listing old new : List ℕ) (r : Answer) : Type 0 where
  pub answer : r ≡ no_room_lem (length listing)
  pub bytes : new ≡ old

-- "On success, bytes after the returned length stay."
pub record Finished (listing old new : List ℕ) (r : Answer) : Type 0 where
  pub answer : r ≡ finished (length listing)
  pub bytes : new ≡ wrote listing old

-- The listing was to be written: there is room for it, or there is none.
pub record Listed (listing old new : List ℕ) (r : Answer) : Type 0 where
  pub no_room : length old < length listing → NoRoom listing old new r
  pub room : length listing ≤ length old → Finished listing old new r

-- ---- the answer as one number

-- The length; with 16, the length needed.
unfoldable pub shown_length_lem : Answer → ℕ
shown_length_lem a = cond (eqb a.refusal.number 16) a.needed a.length

-- No number is larger than its place in the packed number.
pub record Small (a : Answer) : Type 0 where
  pub number : a.refusal.number < 256
  pub paper : a.paper < 256
  pub line : a.refusal.line < 65536
  pub field : a.refusal.field < 256
  pub length : shown_length_lem a < 65536

-- Bits 0 to 7 the refusal number, 8 to 15 the paper, 16 to 31 the line, 32 to 47 the length (with 16: the length needed), 48 to 55 the field, the rest 0.
unfoldable pub packed_answer : Answer → ℕ
packed_answer a = a.refusal.number + a.paper * 256 + a.refusal.line * 65536 + shown_length_lem a * 4294967296 + a.refusal.field * 281474976710656

-- What a host reads out of the packed number.
pub record Unpacked (k : ℕ) (a : Answer) : Type 0 where
  pub bits_0_7 : a.refusal.number ≡ k % 256
  pub bits_8_15 : a.paper ≡ k / 256 % 256
  pub bits_16_31 : a.refusal.line ≡ k / 65536 % 65536
  pub bits_32_47 : shown_length_lem a ≡ k / 4294967296 % 65536
  pub bits_48_55 : a.refusal.field ≡ k / 281474976710656 % 256
  pub bits_56_63 : k / 72057594037927936 ≡ 0
