-- What the relations call answers, in the paper's numbers.
use Rattle.std.specs.Prelude.{ℕ, Option, Some, None, Result, Ok, Err}
use Rattle.papers.specs.declared.refused.Reason.{Reason}
use Rattle.papers.specs.declared.refused.Reason.TheVariants as reason
use Rattle.papers.specs.refused.Refused.{number_of}
use Rattle.relations.specs.declared.answer.RelationsPlan.{RelationsPlan}
use Rattle.relations.specs.declared.answer.CallRefused.{CallRefused}
use Rattle.relations.specs.declared.answer.CallRefused.TheVariants.{Count, Stray, Room}
use Rattle.relations.specs.declared.answer.RelationsAnswer.{RelationsAnswer}

-- Its row of the refusal table.
abbrev pub reason_of : CallRefused → Reason
reason_of Count = reason.Count
reason_of Stray = reason.Stray
reason_of (Room n) = reason.Room

-- "ROOM also returns the length needed, as a number of its own."
abbrev pub needed_of : CallRefused → ℕ
needed_of Count = 0
needed_of Stray = 0
needed_of (Room n) = n

-- "Class 2 returns count 0."
abbrev pub count_of : Option ℕ → ℕ
count_of None = 0
count_of (Some k) = k

-- The answer in numbers.
abbrev pub answer_of : Result RelationsPlan CallRefused → RelationsAnswer
answer_of (Ok p) = record { number = 0; length = p.length; networks = count_of p.networks; needed = 0; pairs = p.pairs; joins = p.joins }
answer_of (Err e) = record { number = number_of (reason_of e); length = 0; networks = 0; needed = needed_of e; pairs = 0; joins = 0 }
