-- The line of a refusal, part by part.
use Prim.Native.Nat.{ℕ, ◌+◌, ◌≤◌}
use mathlib.Core.List.{List, ◌++◌}
use native.Mathlib.Omega.{arith}
use lib.ListN.{length, length-append}
use Rattle.text.specs.Words.{refused_word, tab, newline}
use Rattle.text.specs.Written.{decimal, Wrote, Pasted}
use Rattle.text.proofs.Written.{more_room, then-more, next-room, pasted-next}
use Rattle.papers.specs.declared.Refusal.{Refusal}
use Rattle.answers.specs.refused_text.RefusedText.{tabbed_number, refused_text_lem}

module _ (n at : ℕ) (old : List ℕ) (room : at + length (tabbed_number n) ≤ length old) where
  pub tab-room : at + 1 ≤ length old
  unfolding tabbed_number
  tab-room = omega (arith, room, length-append tab (decimal n))

  module _ (new : List ℕ) (b : ℕ) (v : Pasted tab at old new b) where
    pub digits-room : b + length (decimal n) ≤ length new
    unfolding tabbed_number
    digits-room = next-room tab (decimal n) old new at b room v

    pub tabbed : (new₂ : List ℕ) (c : ℕ) → Pasted (decimal n) b new new₂ c → Pasted (tabbed_number n) at old new₂ c
    unfolding tabbed_number
    tabbed new₂ c w = pasted-next tab (decimal n) old new at b room v new₂ c w

module _ (why : Refusal) (paper : ℕ) where
  -- the line up to each of its numbers
  abbrev pub to_number : List ℕ
  to_number = refused_word ++ tabbed_number why.number

  abbrev pub to-paper : List ℕ
  to-paper = to_number ++ tabbed_number paper

  abbrev pub to-line : List ℕ
  to-line = to-paper ++ tabbed_number why.line

  abbrev pub to-field : List ℕ
  to-field = to-line ++ tabbed_number why.field

  module _ (old : List ℕ) (room : length (refused_text_lem why paper) ≤ length old) where
    room-field : length to-field ≤ length old
    unfolding refused_text_lem
    room-field = omega (arith, room, length-append to-field newline)

    room-line : length to-line ≤ length old
    room-line = omega (arith, room-field, length-append to-line (tabbed_number why.field))

    room-paper : length to-paper ≤ length old
    room-paper = omega (arith, room-line, length-append to-paper (tabbed_number why.line))

    room-number : length to_number ≤ length old
    room-number = omega (arith, room-paper, length-append to_number (tabbed_number paper))

    pub word_room : 7 ≤ length old
    word_room = omega (arith, room-number, length-append refused_word (tabbed_number why.number))

    module _ (new : List ℕ) (a : ℕ) (w : Wrote refused_word old new a) where
      pub number-next : a + length (tabbed_number why.number) ≤ length new
      number-next = more_room refused_word (tabbed_number why.number) old new a room-number w

      pub then-number : (new₂ : List ℕ) (b : ℕ) → Pasted (tabbed_number why.number) a new new₂ b → Wrote to_number old new₂ b
      then-number = then-more refused_word (tabbed_number why.number) old new a room-number w

    module _ (new : List ℕ) (a : ℕ) (w : Wrote to_number old new a) where
      pub paper-next : a + length (tabbed_number paper) ≤ length new
      paper-next = more_room to_number (tabbed_number paper) old new a room-paper w

      pub then-paper : (new₂ : List ℕ) (b : ℕ) → Pasted (tabbed_number paper) a new new₂ b → Wrote to-paper old new₂ b
      then-paper = then-more to_number (tabbed_number paper) old new a room-paper w

    module _ (new : List ℕ) (a : ℕ) (w : Wrote to-paper old new a) where
      pub line-next : a + length (tabbed_number why.line) ≤ length new
      line-next = more_room to-paper (tabbed_number why.line) old new a room-line w

      pub then-line : (new₂ : List ℕ) (b : ℕ) → Pasted (tabbed_number why.line) a new new₂ b → Wrote to-line old new₂ b
      then-line = then-more to-paper (tabbed_number why.line) old new a room-line w

    module _ (new : List ℕ) (a : ℕ) (w : Wrote to-line old new a) where
      pub field_next : a + length (tabbed_number why.field) ≤ length new
      field_next = more_room to-line (tabbed_number why.field) old new a room-field w

      pub then-field : (new₂ : List ℕ) (b : ℕ) → Pasted (tabbed_number why.field) a new new₂ b → Wrote to-field old new₂ b
      then-field = then-more to-line (tabbed_number why.field) old new a room-field w

    module _ (new : List ℕ) (a : ℕ) (w : Wrote to-field old new a) where
      pub end-next : a + 1 ≤ length new
      unfolding refused_text_lem
      end-next = more_room to-field newline old new a room w

      pub then-end : (new₂ : List ℕ) (b : ℕ) → Pasted newline a new new₂ b → Wrote (refused_text_lem why paper) old new₂ b
      unfolding refused_text_lem
      then-end = then-more to-field newline old new a room w
