-- `judge_listing::Walk::step_at` meets its contract.
use mathlib.Core.Path.{◌≡◌, ap, ◌∙◌, sym}
use Prim.Native.Nat.{ℕ, ◌<◌}
use lib.ListN.{get_or, length-map}
use native.Mathlib.Omega.{arith}
use Rattle.tables.specs.Cells.{number as message_number}
use Rattle.plan_listing.specs.PlanText.{message_numbers}
use Rattle.plan_listing.proofs.Lines.{row-here, no_step}
use Rattle.judge_listing.specs.JudgeText.{word_in}
use Rattle.judge_listing.specs.Places.{next_place_lem}
use Rattle.judge_listing.proofs.Places.{next-below}
use Rattle.judge_listing.proofs.StepLines.{number-at, step_line}
use Rattle.judge_listing.proofs.Walk.step_at.Goals as goal

-- the next place is a place of the walk
within : (n i k : ℕ) → i < n → k ≡ next_place_lem n i → k < n
within n i k h e = omega (arith, next-below n i (omega arith))

pub bounds-self-next_place : goal.bounds-self-next_place
bounds-self-next_place c = within _ c.args.i _ c.requires c.next_place.ensures

pub name-requires : goal.name-requires
name-requires c =
    let walk = c.args.self.now in
    row-here no_step walk.rows.now walk.cycle.now c.args.i walk.given.named c.requires

pub word-requires : goal.word-requires
word-requires c =
    let walk = c.args.self.now in
    let next = within _ c.args.i _ c.requires c.next_place.ensures in (
      row-here no_step walk.rows.now walk.cycle.now c.args.i walk.given.named c.requires,
      row-here no_step walk.rows.now walk.cycle.now c.next_place.result walk.given.named next,
    )

pub name-requires-2 : goal.name-requires-2
name-requires-2 c =
    let walk = c.args.self.now in
    let next = within _ c.args.i _ c.requires c.next_place.ensures in
    row-here no_step walk.rows.now walk.cycle.now c.next_place.result walk.given.named next

pub returns : goal.returns
returns c =
    let walk = c.args.self.now in
    let l = message_numbers walk.cycle.now in
    let i = c.args.i in
    let next = within _ i _ c.requires c.next_place.ensures in
    let here = c.next_place.ensures ∙ ap (λ (n : ℕ). next_place_lem n i) (sym (length-map walk.cycle.now message_number)) in
    step_line walk.rows.now (word_in walk.waits.now) l i _ _ _
    (number-at walk.cycle.now i c.requires)
    (number-at walk.cycle.now c.next_place.result next ∙ ap (λ (k : ℕ). get_or l k 0) here)
    c.name.ensures c.name-2.ensures c.word.ensures
