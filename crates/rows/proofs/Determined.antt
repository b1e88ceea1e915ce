-- The contracts determine the results: two that they allow are equal. A row of w bits is below 2 ^ w.
use Prim.Native.Nat.{ℕ, ◌<◌, ◌^◌}
use mathlib.Core.Path.{◌≡◌, refl, sym, ◌∙◌}
use mathlib.Core.Bool.{Bool, true, false}
use mathlib.Core.Logic.{◌↔◌}
use mathlib.Core.List.{List}
use native.Mathlib.Decide.{dec_lt}
use native.Mathlib.Omega.{arith}
use lib.ListN.{get_or}
use lib.Seq.{ext_get_or}
use Rattle.determined.specs.Determined.{Determines}
use Rattle.determined.proofs.Equal.{equal}
use Rattle.rules.proofs.Unique.{counts-one}
use Rattle.rows.specs.Rows.{Bit, AllBits}
use Rattle.rows.specs.Row.{With, WithoutLowest, Join, Meet, AllBelow, Lowest, Ones}
use Rattle.rows.specs.Gather.{Gathered}
use Rattle.rows.specs.Closure.{KeptFrom, Cleared, Closure}
use Rattle.rows.specs.Joins.{joins}
use Rattle.rows.specs.Determined.{DeterminesRow, DeterminesRows, DeterminesWords}
use Rattle.rows.proofs.Bits.{same_bits, lowest-place}

-- the same answer to a question that can be told
pub flag_one : (P : Type 0) → Determines (λ (r : Bool). (r ≡ true) ↔ P)
flag_one P true true f g = refl
flag_one P true false f g = sym (g.1 (f.0 refl))
flag_one P false true f g = f.1 (g.0 refl)
flag_one P false false f g = refl

-- two rows of w bits that are told by the same bits
pub told-one : (P : ℕ → Type 0) (w : ℕ) → DeterminesRow w (λ r. (j : ℕ) → Bit r j ↔ P j)
told-one P w r s hr hs f g = same_bits w r s hr hs (λ j h. (λ b. (g j).1 ((f j).0 b), λ b. (f j).1 ((g j).0 b)))

pub has_one : (row j : ℕ) → Determines (λ (r : Bool). (r ≡ true) ↔ Bit row j)
has_one row j = flag_one (Bit row j)

pub with-one : (w row j : ℕ) → DeterminesRow w (With row j)
with-one w row j r s hr hs f g = told-one _ w r s hr hs f.bits g.bits

-- of a row that has a bit
pub without-lowest-one : (w row : ℕ) → row < 2 ^ w → 0 < row → DeterminesRow w (WithoutLowest w row)
without-lowest-one w row small some r s hr hs f g =
    let low = lowest-place w row small some in
    told-one _ w r s hr hs (f.cleared _ low).bits (g.cleared _ low).bits

pub join_one : (w a b : ℕ) → DeterminesRow w (Join a b)
join_one w a b r s hr hs f g = told-one _ w r s hr hs f.bits g.bits

pub meet_one : (w a b : ℕ) → DeterminesRow w (Meet a b)
meet_one w a b r s hr hs f g = told-one _ w r s hr hs f.bits g.bits

pub all-below-one : (w n : ℕ) → DeterminesRow w (AllBelow n)
all-below-one w n r s hr hs f g = told-one _ w r s hr hs f.bits g.bits

pub lowest-one : (w row : ℕ) → Determines (Lowest w row)
lowest-one w row r s f g = omega (arith, f.least s g.bit, g.least r f.bit)

pub ones-one : (w row : ℕ) → Determines (Ones w row)
ones-one w row r s f g = counts-one (Bit row) w r s f.counted g.counted

-- ---- arrays of rows

-- what is equal below n and kept from n on
pub kept-one : (n : ℕ) (given r s : List ℕ) → KeptFrom n given r → KeptFrom n given s → ((i : ℕ) → i < n → get_or r i 0 ≡ get_or s i 0) → r ≡ s
kept-one n given r s f g same = ext_get_or 0 r s (f.long ∙ sym g.long) (λ i h. go i (dec_lt i n))
  where
    go : (i : ℕ) → Dec (i < n) → get_or r i 0 ≡ get_or s i 0
    go i (yes h) = same i h
    go i (no h) = f.rest i (omega arith) ∙ sym (g.rest i (omega arith))

-- the first n rows say a relation, and the rest is kept
pub relation-one : (R : ℕ → ℕ → Type 0) (w n : ℕ) (given : List ℕ)
    → DeterminesRows w (λ rows. ((i j : ℕ) → i < n → Bit (get_or rows i 0) j ↔ R i j) × KeptFrom n given rows)
relation-one R w n given r s hr hs f g =
    kept-one n given r s f.1 g.1 (λ i h. told-one (R i) w (get_or r i 0) (get_or s i 0) (hr i) (hs i) (λ j. f.0 i j h) (λ j. g.0 i j h))

-- every row says a relation
pub words-one : (w n : ℕ) (R : ℕ → ℕ → Type 0) → DeterminesWords w n (λ rows. (i j : ℕ) → Bit (get_or rows i 0) j ↔ R i j)
words-one w n R r s u v f g =
    ext_get_or 0 r s (u.long ∙ sym v.long) (λ i h. told-one (R i) w (get_or r i 0) (get_or s i 0) (u.small i) (v.small i) (f i) (g i))

pub all-bits-one : (w n : ℕ) (rows : List ℕ) → DeterminesRow w (AllBits n rows)
all-bits-one w n rows = told-one _ w

pub clear-one : (n : ℕ) (old : List ℕ) → Determines (Cleared n old)
clear-one n old r s f g = kept-one n old r s f.kept g.kept (λ i h. f.none i h ∙ sym (g.none i h))

pub closure-one : (w n : ℕ) (given : List ℕ) → DeterminesRows w (Closure n given)
closure-one w n given r s hr hs f g = relation-one _ w n given r s hr hs (f.reached, f.kept) (g.reached, g.kept)

-- and the number of row joins in closing them
pub joins-one : (n : ℕ) (given : List ℕ) → Determines (λ (r : ℕ). r ≡ joins n given)
joins-one n given = equal _

pub gather-one : (w n : ℕ) (given sets old : List ℕ) → DeterminesRows w (Gathered n given sets old)
gather-one w n given sets old r s hr hs f g = relation-one _ w n old r s hr hs (f.bits, f.kept) (g.bits, g.kept)
