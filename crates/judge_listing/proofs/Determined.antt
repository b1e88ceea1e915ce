-- The contracts of this crate leave one answer, and one content of the lent bytes.
use Prim.Native.Nat.{ℕ}
use mathlib.Core.List.{List}
use Rattle.determined.specs.Determined.{DeterminesLent}
use Rattle.rules.specs.declared.Message.{Message}
use Rattle.tables.specs.declared.MessageRow.{MessageRow}
use Rattle.answers.specs.Answers.{Listed}
use Rattle.answers.proofs.Determined.{listed-determined}
use Rattle.judge_listing.specs.fit.FitText.{fit_text}
use Rattle.judge_listing.specs.JudgeText.{unfit_text}
use Rattle.judge_listing.specs.Places.{walk_steps}

pub fit-listing-determined : (old : List ℕ) → DeterminesLent (Listed fit_text old)
fit-listing-determined = listed-determined fit_text

pub unfit-listing-determined : (messages : List MessageRow) (cycle : List Message) (waits old : List ℕ)
    → DeterminesLent (Listed (unfit_text messages (walk_steps waits cycle)) old)
unfit-listing-determined messages cycle waits = listed-determined (unfit_text messages (walk_steps waits cycle))
