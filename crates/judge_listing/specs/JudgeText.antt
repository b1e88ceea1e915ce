-- The listing of a judgement (01-scope.md, "Two listings, whole"), for an unfit mapping.
-- "It prints `vn-judge>1`, then `fit`, or `unfit` and a line `step` name `waits` or `queues` name for each step."
use Rattle.std.specs.Prelude.{ℕ, List, [], ◌∷◌, ◌++◌, get_or}
use Rattle.std.proofs.Math.Bool.{decide}
use Rattle.rules.specs.Rules.{MessageNo}
use Rattle.rules.specs.Plan.{Word}
use Rattle.rows.proofs.Bits.{bit?}
use Rattle.text.specs.Words.{unfit_word}
use Rattle.tables.specs.declared.MessageRow.{MessageRow}
use Rattle.plan_listing.specs.PlanText.{name_at}
use Rattle.judge_listing.specs.fit.FitText.{verdict_head}
use Rattle.judge_listing.specs.step_lines.StepLine.{line_of_step, word_text, word_of}

-- ---- the steps of a closed walk

-- A step as it is shown.
pub record ShownStep : Type 0 where
  pub from : MessageNo
  pub word : Word
  pub to : MessageNo

-- The step from a to b, where w gives the word of each.
abbrev pub step_of : (MessageNo → MessageNo → Word) → MessageNo → MessageNo → ShownStep
step_of w a b = record { from = a; word = w a b; to = b }

-- The steps from a through the messages of l.
unfoldable pub steps_from : (MessageNo → MessageNo → Word) → MessageNo → List MessageNo → List ShownStep
steps_from w a [] = []
steps_from w a (b ∷ l) = step_of w a b ∷ steps_from w b l

-- The steps of the closed walk: the last one leads back to the first message.
unfoldable pub steps_around : (MessageNo → MessageNo → Word) → List MessageNo → List ShownStep
steps_around w [] = []
steps_around w (a ∷ l) = steps_from w a (l ++ (a ∷ []))

-- ---- the listing

-- The line of a step, with the names of its messages.
unfoldable pub step_text : List MessageRow → ShownStep → List ℕ
step_text rows s = line_of_step (name_at rows s.from) (word_text s.word) (name_at rows s.to)

-- A line for each step.
unfoldable pub step_texts : List MessageRow → List ShownStep → List ℕ
step_texts rows [] = []
step_texts rows (s ∷ ss) = step_text rows s ++ step_texts rows ss

-- Unfit: the verdict, and the lines of the steps.
unfoldable pub unfit_text : List MessageRow → List ShownStep → List ℕ
unfit_text rows steps = verdict_head unfit_word ++ step_texts rows steps

-- ---- words by the rows of waits

-- The word of the step from m to k: waits where bit k of row m is set.
unfoldable pub word_in : List ℕ → MessageNo → MessageNo → Word
word_in rows m k = word_of (decide (bit? (get_or rows m 0) k))
