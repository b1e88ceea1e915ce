-- The checks of the relations call, in the paper's order (01-scope.md, "Relations call" and "Refusal numbers").
-- A row has `size` bytes, and there are at most `most` messages: 4 and 32.
use Rattle.std.specs.Prelude.{ℕ, ◌*◌, ◌≡◌, Bool, ◌||◌, not, cond, List, [], ◌∷◌, length, eqb, ltb, Result, Ok, Err}
use Rattle.std.proofs.Math.Bool.{decide}
use Rattle.rows.proofs.Strays.{stray?}
use Rattle.papers.specs.declared.Refusal.{Refusal}
use Rattle.papers.specs.Checks.{Check, check, first_of}
use Rattle.relations.specs.row_bytes.RowBytes.{rows_of_bytes}
use Rattle.relations.specs.declared.answer.RelationsAnswer.{RelationsAnswer}
use Rattle.relations.specs.declared.answer.CallRefused.{CallRefused}
use Rattle.relations.specs.answer.Told.{answer_of}

-- A table is not exactly so many bytes a message.
abbrev pub wrong_length : ℕ → ℕ → List ℕ → Bool
wrong_length size n table = not (eqb (length table) (size * n))

-- 17, COUNT: "message count 0 or above 32, or a table not exactly 4 bytes a message".
abbrev pub is_wrong_count : ℕ → ℕ → ℕ → List ℕ → List ℕ → Bool
is_wrong_count size most n causes stalls = (eqb n 0 || ltb most n) || (wrong_length size n causes || wrong_length size n stalls)

-- 18, STRAY: "a bit at or above the count", which is `Stray` of rows.
abbrev pub stray_bit : ℕ → ℕ → List ℕ → List ℕ → Bool
stray_bit size n causes stalls = decide (stray? n (rows_of_bytes size n causes)) || decide (stray? n (rows_of_bytes size n stalls))

-- 16, ROOM: "the output has fewer than n bytes, in either class". The output has `room` bytes.
abbrev pub too_little_room : ℕ → ℕ → Bool
too_little_room n room = ltb room n

-- "It checks 17, 18, then 16." "ROOM, COUNT and STRAY have paper 0, line 0."
abbrev pub relations_checks : ℕ → ℕ → ℕ → List ℕ → List ℕ → ℕ → List Check
relations_checks size most n causes stalls room =
    check 17 0 (is_wrong_count size most n causes stalls)
    ∷ check 18 0 (stray_bit size n causes stalls)
    ∷ check 16 0 (too_little_room n room)
    ∷ []

-- How the call is refused.
unfoldable pub relations_refusal : ℕ → ℕ → ℕ → List ℕ → List ℕ → ℕ → Refusal
relations_refusal size most n causes stalls room = first_of (relations_checks size most n causes stalls room)

-- "ROOM also returns the length needed, as a number of its own; every other number returned with a refusal is 0." "(length needed: n)"
-- The number of row joins is one of these: "0 with a refusal".
unfoldable pub refused_relations : ℕ → ℕ → RelationsAnswer
refused_relations number n = record { number = number; length = 0; networks = 0; needed = cond (eqb number 16) n 0; pairs = 0; joins = 0 }

-- What the checks tell where the refusal's number is k: they are passed, or they say why not.
abbrev pub Checked : ℕ → ℕ → {T : Type 0} → Result T CallRefused → Type 0
Checked k n (Ok t) = k ≡ 0
Checked k n (Err e) = answer_of (Err e) ≡ refused_relations k n
