-- The contracts of this crate leave one answer, and so does `Listed`, by which the listings are promised.
use Prim.Native.Nat.{ℕ, ◌<◌, ◌≤◌}
use mathlib.Core.Path.{◌≡◌, refl}
use mathlib.Core.Bool.{Bool, true, false}
use mathlib.Core.List.{List}
use lib.ListN.{length, take}
use lib.Dec.{ltb}
use borrow.Author.Tests.{ltb-true, ltb-false}
use Rattle.determined.specs.Determined.{Determines, DeterminesLent}
use Rattle.determined.proofs.Equal.{equal}
use Rattle.std.specs.Prelude.{Result}
use Rattle.papers.specs.declared.Refusal.{Refusal}
use Rattle.answers.specs.declared.Answer.{Answer}
use Rattle.answers.specs.declared.PrintedBytes.{PrintedBytes}
use Rattle.answers.specs.declared.unlisted.Paper.{Paper}
use Rattle.answers.specs.declared.unlisted.NoRoom.{NoRoom}
use Rattle.answers.specs.declared.unlisted.Unlisted.{Unlisted}
use Rattle.answers.specs.Answers.{refused_at_lem, no_room_lem, finished, packed_answer, Refused, Listed}
use Rattle.answers.specs.unlisted.Unlisted.{paper_of, answer_of, listed_of}
use Rattle.answers.proofs.Told.{listed-injective}
use Rattle.text.specs.Written.{Wrote}
use Rattle.text.proofs.Determined.{wrote-determined}
use Rattle.answers.specs.refused_text.RefusedText.{refused_text_lem}

pub refused-determined : (why : Refusal) (paper : ℕ) → Determines (λ (r : Answer). r ≡ refused_at_lem why paper)
refused-determined why paper = equal _

pub no-room-determined : (needed : ℕ) → Determines (λ (r : Answer). r ≡ no_room_lem needed)
no-room-determined needed = equal _

pub finished-determined : (n : ℕ) → Determines (λ (r : Answer). r ≡ finished n)
finished-determined n = equal _

pub as-slice-determined : (p : PrintedBytes) → Determines (λ (r : List ℕ). r ≡ take p.length p.bytes)
as-slice-determined p = equal _

pub packed-determined : (a : Answer) → Determines (λ (r : ℕ). r ≡ packed_answer a)
packed-determined a = equal _

-- ---- what a call on texts tells, in numbers

pub paper-number-determined : (p : Paper) → Determines (λ (r : ℕ). r ≡ paper_of p)
paper-number-determined p = equal _

pub answer-determined : (told : Result ℕ Unlisted) → Determines (λ (r : Answer). r ≡ answer_of told)
answer-determined told = equal _

-- ---- refusals

pub refusal-determined : (why : Refusal) (paper : ℕ) (old : List ℕ) → DeterminesLent (Refused why paper old)
refusal-determined why paper old new new' r r' v w = (refused-determined why paper r r' v.answer w.answer, equal _ new new' v.bytes w.bytes)

-- ---- listings

module _ (listing old new new' : List ℕ) (r r' : Answer) (v : Listed listing old new r) (w : Listed listing old new' r') where
  short : length old < length listing → (r ≡ r') × (new ≡ new')
  short h = (no-room-determined (length listing) r r' (v.no_room h).answer (w.no_room h).answer, equal _ new new' (v.no_room h).bytes (w.no_room h).bytes)

  long : length listing ≤ length old → (r ≡ r') × (new ≡ new')
  long h = (finished-determined (length listing) r r' (v.room h).answer (w.room h).answer, equal _ new new' (v.room h).bytes (w.room h).bytes)

pub listed-determined : (listing old : List ℕ) → DeterminesLent (Listed listing old)
listed-determined listing old new new' r r' v w = go (ltb (length old) (length listing)) refl
  where
    go : (t : Bool) → ltb (length old) (length listing) ≡ t → (r ≡ r') × (new ≡ new')
    go true e = short listing old new new' r r' v w (ltb-true (length old) (length listing) e)
    go false e = long listing old new new' r r' v w (ltb-false (length old) (length listing) e)

-- and so does what a function that writes one gives back
pub listed-result-determined : (listing old : List ℕ) → DeterminesLent (λ (new : List ℕ) (r : Result ℕ NoRoom). Listed listing old new (listed_of r))
listed-result-determined listing old new new' r r' v w =
    let q = listed-determined listing old new new' (listed_of r) (listed_of r') v w in
    (listed-injective r r' q.0, q.1)

-- ---- the line of a refusal

pub put-refused-determined : (why : Refusal) (paper : ℕ) (old : List ℕ) → DeterminesLent (Wrote (refused_text_lem why paper) old)
put-refused-determined why paper = wrote-determined (refused_text_lem why paper)
