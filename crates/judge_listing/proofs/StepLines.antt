-- The lines of the steps: one after another, their lengths, and how they are written.
use mathlib.Core.Path.{◌≡◌, refl, sym, ap, ap₂, ◌∙◌, subst}
use mathlib.Core.List.{List, [], ◌∷◌, ◌++◌, append_assoc, append-nil}
use Prim.Native.Nat.{ℕ, ◌+◌, ◌-◌, ◌≤◌, ◌<◌}
use native.Mathlib.Omega.{arith}
use native.Mathlib.Numerals.{add-one}
use lib.ListN.{length, take, drop, get_or, length-append, take-append-drop}
use lib.Seq.{take-suc, take_all}
use Rattle.rules.specs.declared.Message.{Message}
use Rattle.rules.specs.Rules.{MessageNo}
use Rattle.tables.specs.Cells.{number as message_number}
use Rattle.rules.specs.Plan.{Word, queues}
use Rattle.text.specs.Name.{name_text}
use Rattle.text.specs.Words.{unfit_word}
use Rattle.text.specs.Written.{Wrote, Pasted}
use Rattle.text.proofs.Written.{pasted-part, next-room, pasted-next}
use Rattle.tables.specs.declared.MessageRow.{MessageRow}
use Rattle.tables.specs.Tables.{no_message_row}
use Rattle.std.proofs.lemmas.List.{get_or_default, get_or-map}
use Rattle.plan_listing.specs.PlanText.{name_at, message_numbers}
use Rattle.plan_listing.proofs.Lines.{no_row, no_step}
use Rattle.judge_listing.specs.fit.FitText.{verdict_head}
use Rattle.judge_listing.specs.declared.step_lines.NamedStep.{NamedStep}
use Rattle.judge_listing.specs.step_lines.StepLine.{line_of_step, word_text, shown_word, named_line}
use Rattle.judge_listing.specs.JudgeText.{ShownStep, steps_around, unfit_text, step_text, step_texts}
use Rattle.judge_listing.specs.Places.{next_place_lem, step_at_lem}
use Rattle.judge_listing.proofs.Places.{steps-length, steps-at}

-- the name in the row of a message
pub name-at : (rows : List MessageRow) (k m : ℕ) → k ≡ m → m < length rows
    → name_text (get_or rows k no_row).name ≡ name_at rows m
unfolding name_at
name-at rows k m e h =
    ap (λ (j : ℕ). name_text (get_or rows j no_row).name) e
    ∙ ap (λ (r : MessageRow). name_text r.name) (get_or_default rows m no_row no_message_row h)

-- the message at a place of the walk, by its number
pub number-at : (cycle : List Message) (i : ℕ) → i < length cycle → (get_or cycle i no_step).0 ≡ get_or (message_numbers cycle) i 0
number-at cycle i h = sym (get_or-map message_number cycle i no_step 0 h)

-- a step that holds the names of its messages, and their word, has the line of the step at its place
pub step_line : (rows : List MessageRow) (w : MessageNo → MessageNo → Word) (l : List MessageNo) (i from to : ℕ) (s : NamedStep)
    → from ≡ get_or l i 0 → to ≡ get_or l (next_place_lem (length l) i) 0
    → name_text s.from ≡ name_at rows from → name_text s.to ≡ name_at rows to → shown_word s.word ≡ w from to
    → named_line s ≡ step_text rows (step_at_lem w l i)
unfolding named_line step_text step_at_lem
step_line rows w l i from to s ef et nf nt e =
    ap₂ (λ (p q : List ℕ). line_of_step p (word_text (shown_word s.word)) q) nf nt
    ∙ ap (λ (v : Word). line_of_step (name_at rows from) (word_text v) (name_at rows to)) e
    ∙ ap₂ (λ (f t : ℕ). line_of_step (name_at rows f) (word_text (w f t)) (name_at rows t)) ef et

-- ---- lengths

pub unfit-length : (rows : List MessageRow) (steps : List ShownStep) → length (unfit_text rows steps) ≡ 17 + length (step_texts rows steps)
unfolding unfit_text verdict_head
unfit-length rows steps = length-append (verdict_head unfit_word) (step_texts rows steps)

-- ---- one line after another

texts-append : (rows : List MessageRow) (s t : List ShownStep) → step_texts rows (s ++ t) ≡ step_texts rows s ++ step_texts rows t
unfolding step_texts
texts-append rows [] t = refl
texts-append rows (x ∷ s) t =
    ap (λ (l : List ℕ). step_text rows x ++ l) (texts-append rows s t) ∙ sym (append_assoc (step_text rows x) (step_texts rows s) (step_texts rows t))

module _ (rows : List MessageRow) (w : MessageNo → MessageNo → Word) (l : List MessageNo) where
  -- the lines of the first steps
  abbrev pub first_lines : ℕ → List ℕ
  first_lines i = step_texts rows (take i (steps_around w l))

  pub no_lines : first_lines 0 ≡ []
  unfolding step_texts
  no_lines = refl

  -- before any line is written
  pub lines_start : (at : ℕ) (old : List ℕ) → at ≤ length old → Pasted (first_lines 0) at old old at
  unfolding step_texts
  lines_start at old h =
      let e : at + 0 ≡ at = omega arith in
      record { count = sym e; bytes = rw e (sym (take-append-drop at old)) }

  pub all_lines : (i : ℕ) → length l ≤ i → first_lines i ≡ step_texts rows (steps_around w l)
  all_lines i h = ap (step_texts rows) (take_all i (steps_around w l) (omega (arith, steps-length w l)))

  -- the first lines are no longer than all
  pub fewer-lines : (i : ℕ) → length (first_lines i) ≤ length (step_texts rows (steps_around w l))
  fewer-lines i =
      let e = ap length (ap (step_texts rows) (sym (take-append-drop i (steps_around w l))) ∙ texts-append rows (take i (steps_around w l)) (drop i (steps_around w l))) in
      omega (arith, e, length-append (first_lines i) (step_texts rows (drop i (steps_around w l))))

  module _ (i : ℕ) (h : i < length l) (line : List ℕ) (e : line ≡ step_text rows (step_at_lem w l i)) where
    -- one line more
    pub next-line : first_lines (i + 1) ≡ first_lines i ++ line
    unfolding step_texts
    next-line =
        let d : ShownStep = record { from = 0; word = queues; to = 0 } in
        ap (λ (k : ℕ). step_texts rows (take k (steps_around w l))) (add-one i)
        ∙ ap (step_texts rows) (take-suc (steps_around w l) i d (omega (arith, steps-length w l)))
        ∙ texts-append rows (take i (steps_around w l)) (get_or (steps_around w l) i d ∷ [])
        ∙ ap (λ (m : List ℕ). first_lines i ++ m) (append-nil (step_text rows (get_or (steps_around w l) i d)) ∙ ap (step_text rows) (steps-at w d l i h) ∙ sym e)

    pub next-length : length (first_lines (i + 1)) ≡ length (first_lines i) + length line
    next-length = ap length next-line ∙ length-append (first_lines i) line

    -- the line is written behind the first i
    module _ (old out : List ℕ) (start at : ℕ) (room : start + length (step_texts rows (steps_around w l)) ≤ length old) (v : Pasted (first_lines i) start old out at) where
      room-both : start + length (first_lines i ++ line) ≤ length old
      room-both = omega (arith, fewer-lines (i + 1), ap length next-line)

      pub line-room : at + length line ≤ length out
      line-room = next-room (first_lines i) line old out start at room-both v

      pub line-pasted : (ys : List ℕ) (b : ℕ) → Wrote line (take (length out - at) (drop at out)) ys b
          → Pasted (first_lines (i + 1)) start old (take at out ++ (ys ++ drop (length out - at) (drop at out))) (at + b)
      line-pasted ys b u =
          let new = take at out ++ (ys ++ drop (length out - at) (drop at out)) in
          subst (λ (t : List ℕ). Pasted t start old new (at + b)) (sym next-line)
          (pasted-next (first_lines i) line old out start at room-both v new (at + b) (pasted-part line out ys at b line-room u))
