-- What a call on texts tells, and the answer in numbers that a host gets of it.
use Rattle.std.specs.Prelude.{ℕ, Result, Ok, Err}
use Rattle.papers.specs.refused.Refused.{told_refusal}
use Rattle.answers.specs.declared.Answer.{Answer}
use Rattle.answers.specs.declared.unlisted.Paper.{Paper}
use Rattle.answers.specs.declared.unlisted.Paper.TheVariants.{Protocol, Mapping}
use Rattle.answers.specs.declared.unlisted.NoRoom.{NoRoom}
use Rattle.answers.specs.declared.unlisted.Unlisted.{Unlisted}
use Rattle.answers.specs.declared.unlisted.Unlisted.TheVariants.{Refused, NoRoom as WithoutRoom}
use Rattle.answers.specs.Answers.{refused_at_lem, no_room_lem, finished}

-- "A plan's protocol is paper 0"; of a judgement "the mapping (paper 1)".
abbrev pub paper_of : Paper → ℕ
paper_of Protocol = 0
paper_of Mapping = 1

abbrev pub answer_of : Result ℕ Unlisted → Answer
answer_of (Ok n) = finished n
answer_of (Err (Refused why paper)) = refused_at_lem (told_refusal why) (paper_of paper)
answer_of (Err (WithoutRoom r)) = no_room_lem r.needed

-- The same of a listing alone.
abbrev pub listed_of : Result ℕ NoRoom → Answer
listed_of (Ok n) = finished n
listed_of (Err r) = no_room_lem r.needed
