-- The steps of a closed walk by their places.
use Rattle.std.specs.Prelude.{ℕ, ◌+◌, ◌≤◌, cond, List, length, get_or, ltb}
use Rattle.rules.specs.declared.Message.{Message}
use Rattle.rules.specs.Rules.{MessageNo}
use Rattle.rules.specs.Plan.{Word}
use Rattle.tables.specs.declared.MessageRow.{MessageRow}
use Rattle.plan_listing.specs.PlanText.{message_numbers, HaveRows}
use Rattle.judge_listing.specs.JudgeText.{ShownStep, step_of, steps_around, word_in}

-- A closed walk as it is given: each message has a row in the tables, and each row a row of waits.
pub record GivenWalk (rows : List MessageRow) (cycle : List Message) (waits : List ℕ) : Type 0 where
  pub named : HaveRows rows cycle
  pub told : length rows ≤ length waits

-- The steps of the walk, their words by the rows of waits.
abbrev pub walk_steps : List ℕ → List Message → List ShownStep
walk_steps waits cycle = steps_around (word_in waits) (message_numbers cycle)

-- The place after i in a closed walk of n messages: behind the last one stands the first.
unfoldable pub next_place_lem : ℕ → ℕ → ℕ
next_place_lem n i = cond (ltb (i + 1) n) (i + 1) 0

-- The step at place i of the closed walk l.
unfoldable pub step_at_lem : (MessageNo → MessageNo → Word) → List MessageNo → ℕ → ShownStep
step_at_lem w l i = step_of w (get_or l i 0) (get_or l (next_place_lem (length l) i) 0)
