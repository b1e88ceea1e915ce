-- What is promised of the relations call beside its contract.
use Rattle.std.specs.Prelude.{ℕ, ◌*◌, ◌≤◌, ◌≡◌, ◌≢◌, List, length}
use Rattle.papers.specs.Checks.{ToldBy}
use Rattle.relations.specs.declared.answer.RelationsAnswer.{RelationsAnswer}
use Rattle.relations.specs.row_bytes.RowBytes.{widened}
use Rattle.relations.specs.checks.CallChecks.{relations_checks, relations_refusal}
use Rattle.relations.specs.Call.{RelationsCall}

-- "Each refusal is given only under its row": its check is given, and none before it.
abbrev pub RelationsUnderRow : Type 0
RelationsUnderRow = (size most n : ℕ) (causes stalls : List ℕ) (room : ℕ) → (relations_refusal size most n causes stalls room).number ≢ 0
    → ToldBy (relations_checks size most n causes stalls room) (relations_refusal size most n causes stalls room)

-- What is written fits the lent output.
abbrev pub RelationsFit : Type 0
RelationsFit = (size most n : ℕ) (causes stalls old new : List ℕ) (r : RelationsAnswer) → RelationsCall size most n causes stalls old new r → r.length ≤ length old

-- C-15: for n up to 32, the two forms of the call say the same: the answer of the first, and the bytes that it leaves, are those of the second
-- with each row widened by four zero bytes. So it is with refused calls too.
abbrev pub BothForms : Type 0
BothForms = (n : ℕ) (causes stalls old new new' : List ℕ) (r r' : RelationsAnswer) → n ≤ 32
    → RelationsCall 4 32 n causes stalls old new r → RelationsCall 8 64 n (widened causes) (widened stalls) old new' r' → (r ≡ r') × (new ≡ new')

-- C-23: of an accepted call the number of row joins "is at most n times n for n messages".
abbrev pub RelationsFewJoins : Type 0
RelationsFewJoins = (size most n : ℕ) (causes stalls old new : List ℕ) (r : RelationsAnswer) → RelationsCall size most n causes stalls old new r
    → (relations_refusal size most n causes stalls (length old)).number ≡ 0 → r.joins ≤ n * n
