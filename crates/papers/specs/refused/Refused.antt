-- Why and where a paper is refused: the reasons' numbers in the refusal table, and what an answer says of a refusal.
use Rattle.std.specs.Prelude.{ℕ, Result, Ok, Err}
use Rattle.papers.specs.declared.Refusal.{Refusal}
use Rattle.papers.specs.declared.refused.Reason.{Reason}
use Rattle.papers.specs.declared.refused.Reason.TheVariants.{TooBig, NoEnd, Header, Shape, Order, Name, Unknown, Twice, Full, StallStable, Conflict, NoMessage, NoEntry, Unmatched, Network, Room, Count, Stray}
use Rattle.papers.specs.declared.refused.Refused.{Refused}
use Rattle.papers.specs.Checks.{field_refusal, none}

-- The refusal table, row by row.
abbrev pub number_of : Reason → ℕ
number_of TooBig = 1
number_of NoEnd = 2
number_of Header = 3
number_of Shape = 4
number_of Order = 5
number_of Name = 6
number_of Unknown = 7
number_of Twice = 8
number_of Full = 9
number_of StallStable = 10
number_of Conflict = 11
number_of NoMessage = 12
number_of NoEntry = 13
number_of Unmatched = 14
number_of Network = 15
number_of Room = 16
number_of Count = 17
number_of Stray = 18

-- The refusal in numbers.
abbrev pub told_refusal : Refused → Refusal
told_refusal r = field_refusal (number_of r.why) r.line r.field.0

-- How an answer is refused: `none` where it is not.
abbrev pub refusal_of : {T : Type 0} → Result T Refused → Refusal
refusal_of (Ok a) = none
refusal_of (Err r) = told_refusal r
