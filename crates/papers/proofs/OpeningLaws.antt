-- Laws of the opening: what is known of a text that is not refused by it, and when it is not.
use mathlib.Core.Path.{◌≡◌, refl, sym, ap, ◌∙◌}
use mathlib.Core.Bool.{true, false, not}
use mathlib.Core.List.{List, [], ◌∷◌}
use Prim.Native.Nat.{ℕ, zero, suc, ◌+◌, ◌-◌, ◌≤◌, ◌<◌}
use native.Mathlib.Omega.{arith}
use native.Mathlib.Nat.{sub-zero}
use lib.ListN.{length, take, drop, get_or}
use lib.Dec.{eqb}
use borrow.Author.Tests.{eq-eqb, ne_eqb, eqb-true, lt-ltb, le-ltb, ltb-false, not-false}
use Rattle.text.specs.Parts.{place, is_same_text, lines}
use Rattle.text.proofs.Parts.{same_true, true_same, get_or-within}
use Rattle.text.proofs.Lines.{lines_none}
use Rattle.papers.specs.Checks.{check, refusal, none, first_of}
use Rattle.papers.specs.Lined.{Lined}
use Rattle.papers.specs.Opening.{is_too_big, has_no_end, last_line, begins_with, wrong_header, opening_checks, opening_of}
use Rattle.papers.proofs.Checks.{first-given, first-passed, passed-by, Numbered}
use Rattle.papers.proofs.Walk.{NextLine, walk-next}

-- What is known of a text that is not refused before its lines are read.
pub record Opened (header text : List ℕ) : Type 0 where
  pub small : length text ≤ 49152
  pub some : 0 < length text
  pub last : get_or text (length text - 1) 0 ≡ 10
  pub first : lines text ≡ header ∷ drop 1 (lines text)
  pub ends : place 10 text 0 (length text) < length text
  pub rest : lines (drop (place 10 text 0 (length text) + 1) text) ≡ drop 1 (lines text)
  pub more : Lined text (place 10 text 0 (length text) + 1)

pub opening-rows : (header text : List ℕ) → Numbered (opening_checks header text)
opening-rows header text zero h q = omega arith
opening-rows header text (suc zero) h q = omega arith
opening-rows header text (suc (suc zero)) h q = omega arith
opening-rows header text (suc (suc (suc i))) h q = omega arith

begins : (header : List ℕ) (ls : List (List ℕ)) → begins_with header ls ≡ true → ls ≡ header ∷ drop 1 ls
begins header [] e = absurd (let q : ◌≡◌ {A = ℕ} 0 1 = cc in omega arith)
begins header (l ∷ ls) e = ap (λ (k : List ℕ). k ∷ ls) (same_true l header e)

module _ (header text : List ℕ) where
  -- ---- the three refusals

  pub too_big : 49152 < length text → opening_of header text ≡ refusal 1 0
  unfolding opening_of
  too_big h = first-given (check 1 0 (is_too_big text)) (check 2 (last_line text) (has_no_end text) ∷ check 3 1 (wrong_header header text) ∷ []) (lt-ltb 49152 (length text) h)

  after-size : length text ≤ 49152
      → opening_of header text ≡ first_of (check 2 (last_line text) (has_no_end text) ∷ check 3 1 (wrong_header header text) ∷ [])
  unfolding opening_of
  after-size h = first-passed (check 1 0 (is_too_big text)) (check 2 (last_line text) (has_no_end text) ∷ check 3 1 (wrong_header header text) ∷ []) (le-ltb 49152 (length text) h)

  pub no_end : length text ≤ 49152 → 0 < length text → (get_or text (length text - 1) 0 ≡ 10 → ⊥) → opening_of header text ≡ refusal 2 (last_line text)
  no_end h k e =
      after-size h
      ∙ first-given (check 2 (last_line text) (has_no_end text)) (check 3 1 (wrong_header header text) ∷ [])
      (ap not (ne_eqb (get_or text (length text - 1) 10) 10 (λ q. e (get_or-within text (length text - 1) 0 10 (omega arith) ∙ q))))

  after-end : length text ≤ 49152 → get_or text (length text - 1) 10 ≡ 10 → opening_of header text ≡ first_of (check 3 1 (wrong_header header text) ∷ [])
  after-end h e =
      after-size h ∙ first-passed (check 2 (last_line text) (has_no_end text)) (check 3 1 (wrong_header header text) ∷ []) (ap not (eq-eqb (get_or text (length text - 1) 10) 10 e))

  pub wrong : length text ≤ 49152 → get_or text (length text - 1) 10 ≡ 10 → begins_with header (lines text) ≡ false → opening_of header text ≡ refusal 3 1
  wrong h e k = after-end h e ∙ first-given (check 3 1 (wrong_header header text)) [] (ap not k)

  pub right : length text ≤ 49152 → get_or text (length text - 1) 10 ≡ 10 → begins_with header (lines text) ≡ true → opening_of header text ≡ none
  unfolding first_of
  right h e k = after-end h e ∙ first-passed (check 3 1 (wrong_header header text)) [] (ap not k)

  -- a text that ends and begins with its header is not refused
  pub opens : (ls : List (List ℕ)) → length text ≤ 49152 → get_or text (length text - 1) 10 ≡ 10 → lines text ≡ header ∷ ls → opening_of header text ≡ none
  opens ls h e q = right h e (ap (begins_with header) q ∙ true_same header header refl)

  -- the empty text has no first line
  pub empty : length text ≡ 0 → opening_of header text ≡ refusal 3 1
  empty h = nothing text h (λ e q. wrong (omega arith) e q)
    where
      nothing : (t : List ℕ) → length t ≡ 0 → (get_or t (length t - 1) 10 ≡ 10 → begins_with header (lines t) ≡ false → opening_of header text ≡ refusal 3 1)
          → opening_of header text ≡ refusal 3 1
      nothing [] e f = f refl (ap (begins_with header) lines_none)
      nothing (x ∷ t) e f = absurd (omega arith)

  -- ---- a text that ends with byte 10 has a first line

  module _ (h : length text ≤ 49152) (k : 0 < length text) (e : get_or text (length text - 1) 0 ≡ 10) where
    whole : NextLine text 0 (place 10 text 0 (length text))
    whole = walk-next text 0 (record { within = omega arith; last = λ g. e }) k

    pub first-line : begins_with header (lines text) ≡ is_same_text (take (place 10 text 0 (length text)) text) header
    first-line =
        ap (begins_with header) whole.first ∙ ap (λ (n : ℕ). is_same_text (take n text) header) (sub-zero (place 10 text 0 (length text)))

    ended : get_or text (length text - 1) 10 ≡ 10
    ended = get_or-within text (length text - 1) 10 0 (omega arith) ∙ e

    pub wrong-line : is_same_text (take (place 10 text 0 (length text)) text) header ≡ false → opening_of header text ≡ refusal 3 1
    wrong-line q = wrong h ended (first-line ∙ q)

    pub right-line : is_same_text (take (place 10 text 0 (length text)) text) header ≡ true → opening_of header text ≡ none
    right-line q = right h ended (first-line ∙ q)

  -- ---- a text that is not refused

  pub opened : (opening_of header text).number ≡ 0 → Opened header text
  unfolding opening_of
  opened q =
      let a = passed-by (check 1 0 (is_too_big text)) (check 2 (last_line text) (has_no_end text) ∷ check 3 1 (wrong_header header text) ∷ []) (λ z. omega arith) q in
      let b = passed-by (check 2 (last_line text) (has_no_end text)) (check 3 1 (wrong_header header text) ∷ []) (λ z. omega arith) a.1 in
      let d = passed-by (check 3 1 (wrong_header header text)) [] (λ z. omega arith) b.1 in
      let first = begins header (lines text) (not-false (begins_with header (lines text)) d.0) in
      let some = full text first in
      let last : get_or text (length text - 1) 0 ≡ 10 =
      get_or-within text (length text - 1) 0 10 (omega arith) ∙ eqb-true (get_or text (length text - 1) 10) 10 (not-false (eqb (get_or text (length text - 1) 10) 10) b.0) in
      let next = walk-next text 0 (record { within = omega arith; last = λ g. last }) some in
      record {
        small = ltb-false 49152 (length text) a.0;
        some = some;
        last = last;
        first = first;
        ends = next.ends;
        rest = sym (ap (drop 1) next.first);
        more = next.more;
      }
    where
      full : (t : List ℕ) → lines t ≡ header ∷ drop 1 (lines t) → 0 < length t
      full [] e = absurd (omega (arith, ap length (sym lines_none ∙ e)))
      full (x ∷ t) e = omega arith
