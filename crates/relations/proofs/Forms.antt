-- The two forms of the call say the same where both take the count.
use Prim.Native.Nat.{ℕ, zero, suc, ◌*◌, ◌≤◌}
use mathlib.Core.Path.{◌≡◌, refl, sym, ap, ap₂, ◌∙◌}
use mathlib.Core.Bool.{Bool, true, false}
use mathlib.Core.List.{List, [], ◌∷◌}
use native.Mathlib.Decide.{ℕ_discrete}
use native.Mathlib.Omega.{arith}
use lib.ListN.{length}
use borrow.Author.Tests.{le-ltb, eq-eqb, ne_eqb}
use Rattle.papers.specs.declared.Refusal.{Refusal}
use Rattle.papers.specs.Checks.{Check, check, first_of}
use Rattle.papers.proofs.Checks.{first-given}
use Rattle.relations.specs.declared.answer.RelationsAnswer.{RelationsAnswer}
use Rattle.relations.specs.row_bytes.RowBytes.{rows_of_bytes, widened}
use Rattle.relations.specs.checks.CallChecks.{wrong_length, is_wrong_count, stray_bit, too_little_room, relations_refusal}
use Rattle.relations.specs.Call.{RelationsCall}
use Rattle.relations.specs.Promises.{BothForms}
use Rattle.relations.proofs.checks.Passing.{right, passed}
use Rattle.relations.proofs.Determined.{call-one}

-- ---- tables

-- a table has whole rows of 4 bytes exactly where the widened one has such of 8
wide-long : (table : List ℕ) (n : ℕ) → length table ≡ 4 * n → length (widened table) ≡ 8 * n
wide-long [] zero e = refl
wide-long [] (suc n) e = absurd (omega (arith, e))
wide-long (a ∷ []) n e = absurd (omega (arith, e))
wide-long (a ∷ b ∷ []) n e = absurd (omega (arith, e))
wide-long (a ∷ b ∷ c ∷ []) n e = absurd (omega (arith, e))
wide-long (a ∷ b ∷ c ∷ d ∷ t) zero e = absurd (omega (arith, e))
wide-long (a ∷ b ∷ c ∷ d ∷ t) (suc n) e = omega (arith, wide-long t n (omega (arith, e)))

long-wide : (table : List ℕ) (n : ℕ) → length (widened table) ≡ 8 * n → length table ≡ 4 * n
long-wide [] zero e = refl
long-wide [] (suc n) e = absurd (omega (arith, e))
long-wide (a ∷ []) n e = absurd (omega (arith, e))
long-wide (a ∷ b ∷ []) n e = absurd (omega (arith, e))
long-wide (a ∷ b ∷ c ∷ []) n e = absurd (omega (arith, e))
long-wide (a ∷ b ∷ c ∷ d ∷ t) zero e = absurd (omega (arith, e))
long-wide (a ∷ b ∷ c ∷ d ∷ t) (suc n) e = omega (arith, long-wide t n (omega (arith, e)))

-- and its rows are the same numbers
same_rows : (table : List ℕ) (n : ℕ) → length table ≡ 4 * n → rows_of_bytes 8 n (widened table) ≡ rows_of_bytes 4 n table
same_rows [] zero e = refl
same_rows [] (suc n) e = absurd (omega (arith, e))
same_rows (a ∷ []) n e = absurd (omega (arith, e))
same_rows (a ∷ b ∷ []) n e = absurd (omega (arith, e))
same_rows (a ∷ b ∷ c ∷ []) n e = absurd (omega (arith, e))
same_rows (a ∷ b ∷ c ∷ d ∷ t) zero e = absurd (omega (arith, e))
same_rows (a ∷ b ∷ c ∷ d ∷ t) (suc n) e = ap₂ (λ (r : ℕ) (rs : List ℕ). r ∷ rs) (omega arith) (same_rows t n (omega (arith, e)))

-- ---- checks

same_length : (n : ℕ) (table : List ℕ) → wrong_length 8 n (widened table) ≡ wrong_length 4 n table
same_length n table = go (ℕ_discrete (length table) (4 * n))
  where
    go : Dec (length table ≡ 4 * n) → wrong_length 8 n (widened table) ≡ wrong_length 4 n table
    go (yes e) = rw (eq-eqb (length table) (4 * n) e, eq-eqb (length (widened table)) (8 * n) (wide-long table n e)) refl
    go (no g) = rw (ne_eqb (length table) (4 * n) g, ne_eqb (length (widened table)) (8 * n) (λ q. g (long-wide table n q))) refl

module _ (n : ℕ) (causes stalls : List ℕ) (few : n ≤ 32) where
  same_count : is_wrong_count 8 64 n (widened causes) (widened stalls) ≡ is_wrong_count 4 32 n causes stalls
  same_count = rw (le-ltb 32 n few, le-ltb 64 n (omega arith), same_length n causes, same_length n stalls) refl

  same-stray : is_wrong_count 4 32 n causes stalls ≡ false → stray_bit 8 n (widened causes) (widened stalls) ≡ stray_bit 4 n causes stalls
  same-stray e =
      let k = right 4 32 n causes stalls e in
      rw (same_rows causes n k.causes-long, same_rows stalls n k.stalls-long) refl

  same-refusal : (room : ℕ) → relations_refusal 8 64 n (widened causes) (widened stalls) room ≡ relations_refusal 4 32 n causes stalls room
  unfolding relations_refusal
  same-refusal room = go (is_wrong_count 4 32 n causes stalls) refl
    where
      tail : Bool → List Check
      tail s = check 18 0 s ∷ check 16 0 (too_little_room n room) ∷ []

      go : (t : Bool) → is_wrong_count 4 32 n causes stalls ≡ t → relations_refusal 8 64 n (widened causes) (widened stalls) room ≡ relations_refusal 4 32 n causes stalls room
      go true e =
          first-given (check 17 0 (is_wrong_count 8 64 n (widened causes) (widened stalls))) (tail (stray_bit 8 n (widened causes) (widened stalls))) (same_count ∙ e)
          ∙ sym (first-given (check 17 0 (is_wrong_count 4 32 n causes stalls)) (tail (stray_bit 4 n causes stalls)) e)
      go false e = ap₂ (λ (c s : Bool). first_of (check 17 0 c ∷ tail s)) same_count (same-stray e)

  -- the second call, as one of the first form
  narrow : (old new : List ℕ) (r : RelationsAnswer) → RelationsCall 8 64 n (widened causes) (widened stalls) old new r → RelationsCall 4 32 n causes stalls old new r
  narrow old new r f =
      let e = ap (λ (x : Refusal). x.number) (same-refusal (length old)) in
      record {
        refused = λ g. rw e at (f.refused (λ q. g (sym e ∙ q)));
        planned = λ z.
            let k = (passed 4 32 n causes stalls (length old) z).count in
            rw (same_rows causes n k.causes-long, same_rows stalls n k.stalls-long) at (f.planned (e ∙ z));
      }

pub both-forms : BothForms
both-forms n causes stalls old new new' r r' few f g = call-one 4 32 n causes stalls old new new' r r' f (narrow n causes stalls few old new' r' g)
