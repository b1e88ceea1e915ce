-- The section of a line, by its first field.
use Prim.Native.Nat.{ℕ}
use mathlib.Core.Path.{◌≡◌, refl, sym, subst}
use mathlib.Core.Bool.{Bool, true, false, cond}
use mathlib.Core.List.{List}
use Rattle.text.specs.Parts.{is_same_text}
use Rattle.text.specs.Words.{message_word, event_word, state_word, cell_word}
use Rattle.text.proofs.Parts.{same_true}
use Rattle.lines.proofs.Both.{not-both}
use Rattle.text.specs.Line.{Line, field, says}
use Rattle.lines.specs.Line.{Section, message, event, state, cell, unknown, section_of, picked_by, says_of}

-- a text that is one word is not another
pub other_word : (x a b : List ℕ) → is_same_text x a ≡ true → is_same_text a b ≡ false → is_same_text x b ≡ false
other_word x a b e q = subst (λ (y : List ℕ). is_same_text y b ≡ false) (sym (same_true x a e)) q

abbrev pick_of : Bool → Bool → Bool → Bool → Section
pick_of a b c d = cond a message (cond b event (cond c state (cond d cell unknown)))

picked : {a b c d : Bool} (p q r s : Bool) → a ≡ p → b ≡ q → c ≡ r → d ≡ s → pick_of a b c d ≡ pick_of p q r s
picked p q r s e f g h = cc

module _ (f : Line) where
  by-words : (p q r s : Bool) → says f 0 message_word ≡ p → says f 0 event_word ≡ q → says f 0 state_word ≡ r → says f 0 cell_word ≡ s
      → section_of f ≡ pick_of p q r s
  unfolding section_of
  by-words p q r s e g h k = picked p q r s e g h k

  pub a-message : says f 0 message_word ≡ true → section_of f ≡ message
  a-message e = by-words true (says f 0 event_word) (says f 0 state_word) (says f 0 cell_word) e refl refl refl

  pub an-event : says f 0 event_word ≡ true → section_of f ≡ event
  unfolding is_same_text
  an-event e = by-words false true (says f 0 state_word) (says f 0 cell_word) (other_word (field f 0) event_word message_word e refl) e refl refl

  pub a-state : says f 0 state_word ≡ true → section_of f ≡ state
  unfolding is_same_text
  a-state e =
      by-words false false true (says f 0 cell_word) (other_word (field f 0) state_word message_word e refl)
      (other_word (field f 0) state_word event_word e refl) e refl

  pub a-cell : says f 0 cell_word ≡ true → section_of f ≡ cell
  unfolding is_same_text
  a-cell e =
      by-words false false false true (other_word (field f 0) cell_word message_word e refl)
      (other_word (field f 0) cell_word event_word e refl) (other_word (field f 0) cell_word state_word e refl) e

  pub no_section : says f 0 message_word ≡ false → says f 0 event_word ≡ false → says f 0 state_word ≡ false → says f 0 cell_word ≡ false
      → section_of f ≡ unknown
  no_section e g h k = by-words false false false false e g h k

-- ---- a line of a section has that section's word

picked-by : (a b c d : Bool) → picked_by (pick_of a b c d) a b c d ≡ true
picked-by true b c d = refl
picked-by false true c d = refl
picked-by false false true d = refl
picked-by false false false true = refl
picked-by false false false false = refl

section-says : (f : Line) → says_of (section_of f) f ≡ true
unfolding section_of
section-says f = picked-by (says f 0 message_word) (says f 0 event_word) (says f 0 state_word) (says f 0 cell_word)

pub says-it : (s : Section) (f : Line) → section_of f ≡ s → says_of s f ≡ true
says-it s f q = subst (λ (x : Section). says_of x f ≡ true) q (section-says f)

pub not_in : (s : Section) (f : Line) → says_of s f ≡ false → section_of f ≡ s → ⊥
not_in s f e q = not-both (says_of s f) e (says-it s f q)
