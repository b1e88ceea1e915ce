-- How long the line of a step is.
use mathlib.Core.Path.{◌≡◌}
use Prim.Native.Nat.{◌+◌, ◌≤◌}
use native.Mathlib.Omega.{arith}
use lib.ListN.{length, length-append, length-take}
use Rattle.rules.specs.Plan.{Word, waits, queues}
use Rattle.text.specs.declared.Name.{Name}
use Rattle.text.specs.Name.{name_text}
use Rattle.judge_listing.specs.declared.step_lines.NamedStep.{NamedStep}
use Rattle.judge_listing.specs.step_lines.StepLine.{line_of_step, word_text, shown_word, named_line}

pub name-short : (n : Name) → length n.bytes ≡ 24 → length (name_text n) ≤ 24
name-short n e = omega (arith, length-take n.length n.bytes)

pub word-short : (w : Word) → length (word_text w) ≤ 6
word-short waits = omega arith
word-short queues = omega arith

pub line-length : (s : NamedStep) → length (named_line s) ≡ 8 + length (name_text s.from) + length (word_text (shown_word s.word)) + length (name_text s.to)
unfolding named_line line_of_step
line-length s = simp length-append (omega arith)
