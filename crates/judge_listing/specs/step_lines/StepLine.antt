-- The line of a step (01-scope.md, "Two listings, whole"): "a line `step` name `waits` or `queues` name for each step".
use Rattle.std.specs.Prelude.{ℕ, Bool, cond, List, ◌++◌}
use Rattle.rules.specs.Plan.{Word, waits, queues}
use Rattle.text.specs.Name.{name_text}
use Rattle.text.specs.Words.{step_word, waits_word, queues_word, tab, newline}
use Rattle.judge_listing.specs.declared.step_lines.NamedStep.{NamedStep}
use Rattle.judge_listing.specs.declared.step_lines.StepWord.{StepWord}
use Rattle.judge_listing.specs.declared.step_lines.StepWord.TheVariants.{Waits, Queues}

-- A step's word as it is written.
abbrev pub word_text : Word → List ℕ
word_text waits = waits_word
word_text queues = queues_word

-- A word between its tabs.
abbrev pub between : List ℕ → List ℕ
between word = (tab ++ word) ++ tab

-- `step`, a name, the word, a name, parted by tabs.
unfoldable pub line_of_step : List ℕ → List ℕ → List ℕ → List ℕ
line_of_step from word to = ((((step_word ++ tab) ++ from) ++ between word) ++ to) ++ newline

-- The word of a step, by whether it is a waits step.
abbrev pub word_of : Bool → Word
word_of w = cond w waits queues

-- The word that a step holds.
abbrev pub shown_word : StepWord → Word
shown_word Waits = waits
shown_word Queues = queues

-- The line of a step that holds its names.
unfoldable pub named_line : NamedStep → List ℕ
named_line s = line_of_step (name_text s.from) (word_text (shown_word s.word)) (name_text s.to)
