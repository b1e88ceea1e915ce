-- Laws of the field that a refused line tells.
use Prim.Native.Nat.{ℕ, suc, ◌+◌, ◌≤◌, ◌<◌}
use mathlib.Core.Path.{◌≡◌, refl, sym, ap, subst, ◌∙◌}
use mathlib.Core.Bool.{Bool, true, false, not, ◌&&◌, ◌||◌, cond, and-false}
use mathlib.Core.List.{List, [], ◌∷◌}
use native.Mathlib.Omega.{arith}
use lib.ListN.{length, length-drop}
use lib.Dec.{eqb, ltb, leb}
use borrow.Author.Tests.{eqb-true, ltb-true, leb-true, lt-ltb, le-ltb}
use Rattle.text.specs.Words.{stall_word, go_word}
use Rattle.papers.specs.declared.Refusal.{Refusal}
use Rattle.papers.specs.Checks.{Check, check, field_check, first_of}
use Rattle.papers.specs.Fields.{Looked, looked, first_bad_field}
use Rattle.papers.proofs.Checks.{first-given, first-passed}
use Rattle.papers.proofs.Fields.{bad-first, good-first, told-bad}
use Rattle.tables.specs.declared.Tables.{Tables}
use Rattle.tables.specs.names.Names.{is_message, is_state_name}
use Rattle.text.specs.Line.{Line, field, says}
use Rattle.lines.specs.Line.{Section, message, event, state, cell, unknown, section_of, is_kind, is_controller, is_stability, cell_controller, sent_fields}
use Rattle.lines.specs.Checks.{stall_shape, go_shape, shaped, wrong_word, fixed_words, shape_field, later_read, bad_name, name_field, is_trigger, all_messages, is_not_known, sent_names, go_names, cell_names, unknown_field, twice, full, stall_in_stable, conflict, section_checks, line_refusal}
use Rattle.lines.specs.FieldTold.{ShapeTold, UnknownTold, FieldWithin, FieldLow}
use Rattle.lines.proofs.Both.{and_left, and_right}

-- ---- fields up to a number

abbrev Upto : ℕ → List Looked → Type 0
Upto n [] = Unit {0}
Upto n (l ∷ ls) = (l.bad ≡ true → l.field ≤ n) × Upto n ls

first-upto : (n : ℕ) (ls : List Looked) → Upto n ls → first_bad_field ls ≤ n
unfolding first_bad_field
first-upto n [] h = omega arith
first-upto n (l ∷ ls) h = go l.bad refl (first-upto n ls h.1)
  where
    go : (b : Bool) → l.bad ≡ b → first_bad_field ls ≤ n → first_bad_field (l ∷ ls) ≤ n
    go true e k = subst (λ (x : ℕ). x ≤ n) (sym (bad-first l ls e)) (h.0 e)
    go false e k = subst (λ (x : ℕ). x ≤ n) (sym (good-first l ls e)) k

upto-more : (n m : ℕ) (ls : List Looked) → n ≤ m → Upto n ls → Upto m ls
upto-more n m [] h u = tt
upto-more n m (l ∷ ls) h u = (λ e. omega (arith, u.0 e), upto-more n m ls h u.1)

sent-upto : (t : Tables) (k : ℕ) (xs : List (List ℕ)) (n : ℕ) → k + length xs ≤ suc n → Upto n (sent_names t k xs)
unfolding sent_names
sent-upto t k [] n h = tt
sent-upto t k (x ∷ xs) n h = (λ e. omega arith, sent-upto t (suc k) xs n (omega arith))

-- ---- SHAPE

module _ (f : Line) where
  there : (i : ℕ) (b : Bool) → wrong_word f i b ≡ true → i < length f
  there i b e = ltb-true i (length f) (and_left (ltb i (length f)) (not b) e)

  shape-upto : (s : Section) → 0 < length f → Upto (length f) (fixed_words s f)
  shape-upto message h = (λ e. omega (arith, there 2 (is_kind (field f 2)) e), tt)
  shape-upto event h = tt
  shape-upto state h = (λ e. omega (arith, there 1 (is_controller (field f 1)) e), (λ e. omega (arith, there 3 (is_stability (field f 3)) e), tt))
  shape-upto cell h = (λ e. omega (arith, there 1 (is_controller (field f 1)) e), (λ e. omega (arith, there 4 (says f 4 stall_word || says f 4 go_word) e), tt))
  shape-upto unknown h = (λ e. omega arith, tt)

  five : (s : Section) → Upto 5 (fixed_words s f)
  five message = (λ e. omega arith, tt)
  five event = tt
  five state = (λ e. omega arith, (λ e. omega arith, tt))
  five cell = (λ e. omega arith, (λ e. omega arith, tt))
  five unknown = (λ e. omega arith, tt)

  -- a right word that is there is not told
  right-word : (i : ℕ) (b : Bool) → b ≡ true → wrong_word f i b ≡ false
  right-word i b e = ap (λ (x : Bool). ltb i (length f) && not x) e ∙ and-false (ltb i (length f))

  either-word : (a b c d : Bool) → ((a && b) || (c && d)) ≡ true → (b || d) ≡ true
  either-word true true c d e = refl
  either-word true false true true e = refl
  either-word true false true false e = absurd (let z : ◌≡◌ {A = ℕ} 0 1 = cc in omega arith)
  either-word true false false d e = absurd (let z : ◌≡◌ {A = ℕ} 0 1 = cc in omega arith)
  either-word false true c d e = refl
  either-word false false true true e = refl
  either-word false false true false e = absurd (let z : ◌≡◌ {A = ℕ} 0 1 = cc in omega arith)
  either-word false false false d e = absurd (let z : ◌≡◌ {A = ℕ} 0 1 = cc in omega arith)

  -- a shaped line tells no field
  shaped-none : (s : Section) → shaped s f ≡ true → shape_field s f ≡ 0
  unfolding first_bad_field
  shaped-none message e = good-first (looked 3 (wrong_word f 2 (is_kind (field f 2)))) [] (right-word 2 (is_kind (field f 2)) (and_right (eqb (length f) 3) (is_kind (field f 2)) e))
  shaped-none event e = refl
  shaped-none state e =
      let w = and_right (eqb (length f) 4) (is_controller (field f 1) && is_stability (field f 3)) e in
      good-first (looked 2 (wrong_word f 1 (is_controller (field f 1)))) (looked 4 (wrong_word f 3 (is_stability (field f 3))) ∷ [])
      (right-word 1 (is_controller (field f 1)) (and_left (is_controller (field f 1)) (is_stability (field f 3)) w))
      ∙ good-first (looked 4 (wrong_word f 3 (is_stability (field f 3)))) [] (right-word 3 (is_stability (field f 3)) (and_right (is_controller (field f 1)) (is_stability (field f 3)) w))
  shaped-none cell e =
      good-first (looked 2 (wrong_word f 1 (is_controller (field f 1)))) (looked 5 (wrong_word f 4 (says f 4 stall_word || says f 4 go_word)) ∷ [])
      (right-word 1 (is_controller (field f 1)) (and_left (is_controller (field f 1)) (stall_shape f || go_shape f) e))
      ∙ good-first (looked 5 (wrong_word f 4 (says f 4 stall_word || says f 4 go_word))) []
      (right-word 4 (says f 4 stall_word || says f 4 go_word)
      (either-word (eqb (length f) 5) (says f 4 stall_word) (leb 6 (length f) && leb (length f) 14) (says f 4 go_word) (and_right (is_controller (field f 1)) (stall_shape f || go_shape f) e)))
  shaped-none unknown e = absurd (let z : ◌≡◌ {A = ℕ} 0 1 = cc in omega arith)

pub shape-told : ShapeTold
shape-told s f h = record { bad = told-bad (fixed_words s f) h; shape = go (shaped s f) refl }
  where
    go : (b : Bool) → shaped s f ≡ b → shaped s f ≡ false
    go true e = absurd (omega (arith, shaped-none f s e))
    go false e = e

-- ---- UNKNOWN

asked : (k : ℕ) (b : Bool) (ls : List Looked) (c : Bool) → 0 < k → not c ≡ ltb 0 (first_bad_field ls) → not (b && c) ≡ ltb 0 (first_bad_field (looked k (not b) ∷ ls))
unfolding first_bad_field
asked k true ls c h e = e
asked k false ls c h e = sym (lt-ltb 0 k h)

sent-asked : (t : Tables) (k : ℕ) (xs : List (List ℕ)) → 0 < k → not (all_messages t xs) ≡ ltb 0 (first_bad_field (sent_names t k xs))
unfolding sent_names all_messages first_bad_field
sent-asked t k [] h = sym (le-ltb 0 0 (omega arith))
sent-asked t k (x ∷ xs) h = asked k (is_message t x) (sent_names t (suc k) xs) (all_messages t xs) h (sent-asked t (suc k) xs (omega arith))

rest-asked : (t : Tables) (f : Line) (b : Bool)
    → not (b || (is_state_name t (cell_controller f) (field f 5) && all_messages t (sent_fields f))) ≡ ltb 0 (first_bad_field (cond b [] (go_names t (cell_controller f) f)))
unfolding first_bad_field
rest-asked t f true = sym (le-ltb 0 0 (omega arith))
rest-asked t f false = asked 6 (is_state_name t (cell_controller f) (field f 5)) (sent_names t 7 (sent_fields f)) (all_messages t (sent_fields f)) (omega arith) (sent-asked t 7 (sent_fields f) (omega arith))

pub unknown-told : UnknownTold
unknown-told t f =
    record {
      given =
          asked 3 (is_state_name t (cell_controller f) (field f 2)) (looked 4 (not (is_trigger t (cell_controller f) (field f 3))) ∷ rest)
          (is_trigger t (cell_controller f) (field f 3) && (says f 4 stall_word || (is_state_name t (cell_controller f) (field f 5) && all_messages t (sent_fields f)))) (omega arith)
          (asked 4 (is_trigger t (cell_controller f) (field f 3)) rest (says f 4 stall_word || (is_state_name t (cell_controller f) (field f 5) && all_messages t (sent_fields f))) (omega arith)
          (rest-asked t f (says f 4 stall_word)));
      bad = told-bad (cell_names t f);
    }
  where
    rest : List Looked
    rest = cond (says f 4 stall_word) [] (go_names t (cell_controller f) f)

-- ---- no further than the line, and than fourteen

module _ (t : Tables) (f : Line) where
  go-upto : (b : Bool) (n : ℕ) → 6 ≤ n → 7 + length (sent_fields f) ≤ suc n → Upto n (cond b [] (go_names t (cell_controller f) f))
  go-upto true n h k = tt
  go-upto false n h k = (λ e. h, sent-upto t 7 (sent_fields f) n k)

  names-upto : (n : ℕ) → 5 ≤ n → (says f 4 stall_word ≡ false → (6 ≤ n) × (7 + length (sent_fields f) ≤ suc n)) → unknown_field cell t f ≤ n
  names-upto n h g = first-upto n (cell_names t f) (λ e. omega arith, (λ e. omega arith, by (says f 4 stall_word) refl))
    where
      by : (b : Bool) → says f 4 stall_word ≡ b → Upto n (cond (says f 4 stall_word) [] (go_names t (cell_controller f) f))
      by true e = subst (λ (b : Bool). Upto n (cond b [] (go_names t (cell_controller f) f))) (sym e) tt
      by false e = let k = g e in subst (λ (b : Bool). Upto n (cond b [] (go_names t (cell_controller f) f))) (sym e) (go-upto false n k.0 k.1)

  -- a shaped cell has as many fields as it needs, and no more than fourteen
  counts : shaped cell f ≡ true → (5 ≤ length f) × ((says f 4 stall_word ≡ false → 6 ≤ length f) × (length f ≤ 14))
  counts e = by (stall_shape f) (go_shape f) refl refl (and_right (is_controller (field f 1)) (stall_shape f || go_shape f) e)
    where
      by : (a b : Bool) → stall_shape f ≡ a → go_shape f ≡ b → (stall_shape f || go_shape f) ≡ true → (5 ≤ length f) × ((says f 4 stall_word ≡ false → 6 ≤ length f) × (length f ≤ 14))
      by true b p q r =
          let n : length f ≡ 5 = eqb-true (length f) 5 (and_left (eqb (length f) 5) (says f 4 stall_word) p) in
          let w = and_right (eqb (length f) 5) (says f 4 stall_word) p in
          (omega (arith, n), (λ z. absurd (let y : ◌≡◌ {A = ℕ} 0 1 = cc (w, z) in omega arith), omega (arith, n)))
      by false true p q r =
          let n = and_left (leb 6 (length f) && leb (length f) 14) (says f 4 go_word) q in
          let a = leb-true 6 (length f) (and_left (leb 6 (length f)) (leb (length f) 14) n) in
          let b = leb-true (length f) 14 (and_right (leb 6 (length f)) (leb (length f) 14) n) in
          (omega (arith, a), (λ z. a, b))
      by false false p q r = absurd (let z : ◌≡◌ {A = ℕ} 0 1 = cc (p, q, r) in omega arith)

-- ---- the first check that is given

abbrev pub Fields : ℕ → List Check → Type 0
Fields n [] = Unit {0}
Fields n (c ∷ cs) = (c.field ≤ n) × Fields n cs

pub first-fields : (n : ℕ) (cs : List Check) → Fields n cs → (first_of cs).field ≤ n
unfolding first_of
first-fields n [] h = omega arith
first-fields n (c ∷ cs) h = go c.given refl (first-fields n cs h.1)
  where
    go : (b : Bool) → c.given ≡ b → (first_of cs).field ≤ n → (first_of (c ∷ cs)).field ≤ n
    go true e k = subst (λ (r : Refusal). r.field ≤ n) (sym (first-given c cs e)) h.0
    go false e k = subst (λ (r : Refusal). r.field ≤ n) (sym (first-passed c cs e)) k

-- a line's field is that of its shape, or the line is shaped and it is one of the others
by_shape : (s : Section) (t : Tables) (k : ℕ) (f : Line) (n : ℕ) → shape_field s f ≤ n → (shaped s f ≡ true → (name_field s ≤ n) × (unknown_field s t f ≤ n)) → (first_of (section_checks s t k f)).field ≤ n
by_shape s t k f n h g = go (shaped s f) refl
  where
    first : Check
    first = field_check 4 k (shape_field s f) (not (shaped s f))

    others : List Check
    others =
        check 5 k (later_read s t)
        ∷ field_check 6 k (name_field s) (bad_name s f)
        ∷ field_check 7 k (unknown_field s t f) (is_not_known s t f)
        ∷ field_check 8 k (name_field s) (twice s t f)
        ∷ check 9 k (full s t)
        ∷ check 10 k (stall_in_stable s t f)
        ∷ check 11 k (conflict s t f)
        ∷ []

    go : (b : Bool) → shaped s f ≡ b → (first_of (section_checks s t k f)).field ≤ n
    go true e =
        let w = g e in
        subst (λ (r : Refusal). r.field ≤ n) (sym (first-passed first others (ap not e)))
        (first-fields n others (omega arith, (w.0, (w.1, (w.0, (omega arith, (omega arith, (omega arith, tt))))))))
    go false e = subst (λ (r : Refusal). r.field ≤ n) (sym (first-given first others (ap not e))) h

pub field-within : FieldWithin
unfolding line_refusal
field-within t k f h = by_shape (section_of f) t k f (length f) (first-upto (length f) (fixed_words (section_of f) f) (shape-upto f (section_of f) h)) (rest (section_of f))
  where
    rest : (s : Section) → shaped s f ≡ true → (name_field s ≤ length f) × (unknown_field s t f ≤ length f)
    rest message e = let n = eqb-true (length f) 3 (and_left (eqb (length f) 3) (is_kind (field f 2)) e) in (omega (arith, n), omega arith)
    rest event e = let n = eqb-true (length f) 2 e in (omega (arith, n), omega arith)
    rest state e = let n = eqb-true (length f) 4 (and_left (eqb (length f) 4) (is_controller (field f 1) && is_stability (field f 3)) e) in (omega (arith, n), omega arith)
    rest cell e = let w = counts t f e in (omega arith, names-upto t f (length f) w.0 (λ z. (w.1.0 z, omega (arith, length-drop 6 f, w.1.0 z))))
    rest unknown e = (omega arith, omega arith)

pub field-low : FieldLow
unfolding line_refusal
field-low t k f = by_shape (section_of f) t k f 14 (first-upto 14 (fixed_words (section_of f) f) (upto-more 5 14 (fixed_words (section_of f) f) (omega arith) (five f (section_of f)))) (rest (section_of f))
  where
    rest : (s : Section) → shaped s f ≡ true → (name_field s ≤ 14) × (unknown_field s t f ≤ 14)
    rest message e = (omega arith, omega arith)
    rest event e = (omega arith, omega arith)
    rest state e = (omega arith, omega arith)
    rest cell e = let w = counts t f e in (omega arith, names-upto t f 14 (omega arith) (λ z. (omega arith, omega (arith, length-drop 6 f, w.1.1, w.1.0 z))))
    rest unknown e = (omega arith, omega arith)
