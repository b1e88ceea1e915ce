-- The checks of the relations call: when each is given, which is the first, and what holds where none is.
use Prim.Native.Nat.{ℕ, ◌*◌, ◌<◌, ◌≤◌}
use mathlib.Core.Path.{◌≡◌, refl, ap, ◌∙◌}
use mathlib.Core.Bool.{Bool, true, false, ◌||◌, decide}
use mathlib.Core.List.{List, [], ◌∷◌}
use native.Mathlib.Omega.{arith}
use lib.Dec.{eqb, ltb}
use lib.ListN.{length}
use borrow.Author.Tests.{eqb-true, eqb-false, lt-ltb, le-ltb, ltb-false, not-false}
use Rattle.rows.specs.Rows.{Stray}
use Rattle.rows.proofs.Strays.{stray?}
use Rattle.rows.proofs.Told.{told-false, told-down, decide-tells}
use Rattle.papers.specs.declared.Refusal.{Refusal}
use Rattle.papers.specs.Checks.{Check, check, first_of}
use Rattle.papers.proofs.Checks.{first-given, first-passed, passed-by}
use Rattle.relations.specs.row_bytes.RowBytes.{rows_of_bytes}
use Rattle.relations.specs.checks.CallChecks.{wrong_length, is_wrong_count, stray_bit, too_little_room, relations_refusal}

-- ---- one of two tests

right-given : (a b : Bool) → b ≡ true → (a || b) ≡ true
right-given true b e = refl
right-given false b e = e

none-given : (a b : Bool) → (a || b) ≡ false → (a ≡ false) × (b ≡ false)
none-given true b e = absurd (let z : ◌≡◌ {A = ℕ} 0 1 = cc in omega arith)
none-given false b e = (refl, e)

-- ---- 17: the count, and the tables' lengths

module _ (size most n : ℕ) (causes stalls : List ℕ) where
  pub record RightCount : Type 0 where
    pub some : 0 < n
    pub few : n ≤ most
    pub causes-long : length causes ≡ size * n
    pub stalls-long : length stalls ≡ size * n

  pub right : is_wrong_count size most n causes stalls ≡ false → RightCount
  right w =
      let p = none-given (eqb n 0 || ltb most n) (wrong_length size n causes || wrong_length size n stalls) w in
      let q = none-given (eqb n 0) (ltb most n) p.0 in
      let s = none-given (wrong_length size n causes) (wrong_length size n stalls) p.1 in
      record {
        some = omega (arith, eqb-false n 0 q.0);
        few = ltb-false most n q.1;
        causes-long = eqb-true (length causes) (size * n) (not-false (eqb (length causes) (size * n)) s.0);
        stalls-long = eqb-true (length stalls) (size * n) (not-false (eqb (length stalls) (size * n)) s.1);
      }

-- ---- 18: a stray bit in either table

module _ (size n : ℕ) (causes stalls : List ℕ) where
  abbrev InCauses : Type 0
  InCauses = Stray n (rows_of_bytes size n causes)

  abbrev InStalls : Type 0
  InStalls = Stray n (rows_of_bytes size n stalls)

  abbrev in-causes? : Dec InCauses
  in-causes? = stray? n (rows_of_bytes size n causes)

  abbrev in-stalls? : Dec InStalls
  in-stalls? = stray? n (rows_of_bytes size n stalls)

  pub stray-causes : InCauses → stray_bit size n causes stalls ≡ true
  stray-causes s = ap (λ (b : Bool). b || decide in-stalls?) ((decide-tells InCauses in-causes?).1 s)

  pub stray-stalls : InStalls → stray_bit size n causes stalls ≡ true
  stray-stalls s = right-given (decide in-causes?) (decide in-stalls?) ((decide-tells InStalls in-stalls?).1 s)

  pub no-strays : ¬ InCauses → ¬ InStalls → stray_bit size n causes stalls ≡ false
  no-strays g h = ap (λ (b : Bool). b || decide in-stalls?) (told-down InCauses (decide in-causes?) (decide-tells InCauses in-causes?) g)
      ∙ told-down InStalls (decide in-stalls?) (decide-tells InStalls in-stalls?) h

  pub strays-none : stray_bit size n causes stalls ≡ false → (¬ InCauses) × (¬ InStalls)
  strays-none e =
      let p = none-given (decide in-causes?) (decide in-stalls?) e in
      (told-false InCauses (decide in-causes?) (decide-tells InCauses in-causes?) p.0, told-false InStalls (decide in-stalls?) (decide-tells InStalls in-stalls?) p.1)

-- ---- the first of the checks

module _ (size most n : ℕ) (causes stalls : List ℕ) (room : ℕ) where
  abbrev count : Check
  count = check 17 0 (is_wrong_count size most n causes stalls)

  abbrev stray : Check
  stray = check 18 0 (stray_bit size n causes stalls)

  abbrev short : Check
  short = check 16 0 (too_little_room n room)

  abbrev number : Refusal → ℕ
  number r = r.number

  pub first_count : is_wrong_count size most n causes stalls ≡ true → (relations_refusal size most n causes stalls room).number ≡ 17
  unfolding relations_refusal
  first_count e = ap number (first-given count (stray ∷ short ∷ []) e)

  pub first-stray : is_wrong_count size most n causes stalls ≡ false → stray_bit size n causes stalls ≡ true → (relations_refusal size most n causes stalls room).number ≡ 18
  unfolding relations_refusal
  first-stray c e = ap number (first-passed count (stray ∷ short ∷ []) c ∙ first-given stray (short ∷ []) e)

  pub first-room : is_wrong_count size most n causes stalls ≡ false → stray_bit size n causes stalls ≡ false → room < n
      → (relations_refusal size most n causes stalls room).number ≡ 16
  unfolding relations_refusal
  first-room c s h = ap number (first-passed count (stray ∷ short ∷ []) c ∙ first-passed stray (short ∷ []) s ∙ first-given short [] (lt-ltb room n h))

  pub first-none : is_wrong_count size most n causes stalls ≡ false → stray_bit size n causes stalls ≡ false → n ≤ room
      → (relations_refusal size most n causes stalls room).number ≡ 0
  unfolding relations_refusal first_of
  first-none c s h = ap number (first-passed count (stray ∷ short ∷ []) c ∙ first-passed stray (short ∷ []) s ∙ first-passed short [] (le-ltb room n h))

  -- ---- the checks passed

  pub record PassedChecks : Type 0 where
    pub count : RightCount size most n causes stalls
    pub causes-straight : ¬ Stray n (rows_of_bytes size n causes)
    pub stalls-straight : ¬ Stray n (rows_of_bytes size n stalls)
    pub fits : n ≤ room

  pub passed : (relations_refusal size most n causes stalls room).number ≡ 0 → PassedChecks
  unfolding relations_refusal
  passed e =
      let a = passed-by count (stray ∷ short ∷ []) (λ z. absurd (omega (arith, z))) e in
      let b = passed-by stray (short ∷ []) (λ z. absurd (omega (arith, z))) a.1 in
      let c = passed-by short [] (λ z. absurd (omega (arith, z))) b.1 in
      let s = strays-none size n causes stalls b.0 in
      record { count = right size most n causes stalls a.0; causes-straight = s.0; stalls-straight = s.1; fits = ltb-false room n c.0 }

  -- ---- how large the number is

  few-numbers : (a b c : Bool) → (first_of (check 17 0 a ∷ check 18 0 b ∷ check 16 0 c ∷ [])).number ≤ 18
  unfolding first_of
  few-numbers true b c = omega arith
  few-numbers false true c = omega arith
  few-numbers false false true = omega arith
  few-numbers false false false = omega arith

  pub number_small : (relations_refusal size most n causes stalls room).number ≤ 18
  unfolding relations_refusal
  number_small = few-numbers (is_wrong_count size most n causes stalls) (stray_bit size n causes stalls) (too_little_room n room)

  -- ROOM is given after COUNT is passed
  pub room-few : (relations_refusal size most n causes stalls room).number ≡ 16 → n ≤ most
  room-few e = go (is_wrong_count size most n causes stalls) refl
    where
      go : (t : Bool) → is_wrong_count size most n causes stalls ≡ t → n ≤ most
      go true q = absurd (omega (arith, first_count q, e))
      go false q = (right size most n causes stalls q).few
