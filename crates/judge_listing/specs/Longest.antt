-- "Every program lends room for the longest answer within the limits." How long the listing of an unfit mapping can be.
use Rattle.std.specs.Prelude.{◌≤◌, List, length}
use Rattle.tables.specs.declared.MessageRow.{MessageRow}
use Rattle.plan_listing.specs.Lengths.{ShortNames}
use Rattle.judge_listing.specs.JudgeText.{ShownStep, unfit_text}

-- The header and `unfit` take 17 bytes, each of at most 64 steps at most 62.
abbrev pub LongestUnfit : Type 0
LongestUnfit = (rows : List MessageRow) (steps : List ShownStep) → ShortNames rows → length steps ≤ 64 → length (unfit_text rows steps) ≤ 3985
