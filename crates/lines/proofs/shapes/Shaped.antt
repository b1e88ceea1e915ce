-- Lines that are shaped: how many fields they have, and what their fixed words say.
use Prim.Native.Nat.{ℕ}
use mathlib.Core.Path.{◌≡◌, refl, sym, ap, ap₂, ◌∙◌}
use mathlib.Core.Bool.{Bool, true, false, not, ◌&&◌, cond}
use mathlib.Core.List.{List, [], ◌∷◌}
use native.Mathlib.Omega.{arith}
use lib.ListN.{length}
use lib.Dec.{eqb, ltb}
use borrow.Author.Tests.{eqb-true}
use Rattle.text.specs.Parts.{split}
use Rattle.std.specs.Prelude.{Some, None, Result, Ok, Err}
use Rattle.papers.specs.declared.refused.Field.{Field}
use Rattle.tables.specs.declared.Kind.{Kind}
use Rattle.tables.specs.declared.Controller.{Controller}
use Rattle.tables.specs.declared.Stability.{Stability}
use Rattle.text.specs.Line.{Line, field}
use Rattle.lines.specs.Line.{Section, message, event, state, is_kind, kind_of, is_controller, controller_of, is_stability, stability_of}
use Rattle.lines.specs.Checks.{shaped, shape_field}
use Rattle.papers.specs.declared.records.Record.{Record}
use Rattle.lines.specs.words.Found.{found_kind}
use Rattle.lines.specs.words.Found.{found_controller, found_stability}
use Rattle.lines.specs.shapes.Shapes.{shape_told, message_shape_lem, event_shape_lem, state_shape_lem}
use Rattle.papers.specs.Fields.{looked, first_bad_field}
use Rattle.lines.proofs.words.Words.{kind-is, kind-nothing, controller-is, controller-nothing, stability-is, stability-nothing}
use Rattle.lines.proofs.shapes.Counts.{count_same}
use Rattle.lines.proofs.Both.{and_left}

-- a field that is wrong
abbrev pub wrong_at : {A : Type 0} → ℕ → Result A Field
wrong_at x = Err (record { 0 = x })

module _ {A : Type 0} where
  ok_same : {x y : A} → ◌≡◌ {A = Result A Field} (Ok x) (Ok y) → x ≡ y
  ok_same e = cc

  ok_err : {x : A} {y : Field} → ◌≡◌ {A = Result A Field} (Ok x) (Err y) → ⊥
  ok_err e = let z : ◌≡◌ {A = ℕ} 0 1 = cc in omega arith

  err_same : {x y : Field} → ◌≡◌ {A = Result A Field} (Err x) (Err y) → x.0 ≡ y.0
  err_same e = cc

-- ---- the fields of a shaped line

module _ (r : Record) where
  abbrev line : List ℕ
  line = r.bytes.now

  pub message-count : shaped message (split 9 line) ≡ true → r.fields.count ≡ 3
  message-count e =
      eqb-true r.fields.count 3 (count_same r 3 (omega arith) ∙ and_left (eqb (length (split 9 line)) 3) (is_kind (field (split 9 line) 2)) e)

  pub event-count : shaped event (split 9 line) ≡ true → r.fields.count ≡ 2
  event-count e = eqb-true r.fields.count 2 (count_same r 2 (omega arith) ∙ e)

  pub state-count : shaped state (split 9 line) ≡ true → r.fields.count ≡ 4
  state-count e =
      eqb-true r.fields.count 4
      (count_same r 4 (omega arith)
      ∙ and_left (eqb (length (split 9 line)) 4) (is_controller (field (split 9 line) 1) && is_stability (field (split 9 line) 3)) e)

-- ---- whole lines

-- what was told of a shape tells whether the line is shaped, and what its words say or which field is wrong
module _ {A : Type 0} (s : Section) (f : Line) (words : A) where
  pub shape-is : (w : A) → Ok w ≡ shape_told s f words → (shaped s f ≡ true) × (w ≡ words)
  shape-is w e = go (shaped s f) refl
    where
      go : (b : Bool) → shaped s f ≡ b → (shaped s f ≡ true) × (w ≡ words)
      go true q = (q, ok_same (e ∙ ap (λ (b : Bool). cond b (Ok words) (wrong_at (shape_field s f))) q))
      go false q = absurd (ok_err (e ∙ ap (λ (b : Bool). cond b (Ok words) (wrong_at (shape_field s f))) q))

  pub shape-wrong : (x : Field) → Err x ≡ shape_told s f words → (shaped s f ≡ false) × (x.0 ≡ shape_field s f)
  shape-wrong x e = go (shaped s f) refl
    where
      go : (b : Bool) → shaped s f ≡ b → (shaped s f ≡ false) × (x.0 ≡ shape_field s f)
      go true q = absurd (ok_err (sym (e ∙ ap (λ (b : Bool). cond b (Ok words) (wrong_at (shape_field s f))) q)))
      go false q = (q, err_same (e ∙ ap (λ (b : Bool). cond b (Ok words) (wrong_at (shape_field s f))) q))

module _ (f : Line) where
  abbrev kind : Kind
  kind = kind_of (field f 2)

  -- a message's line by its tests: the count, whether the word is there, and whether it is right
  message-by : (a t k : Bool) → eqb (length f) 3 ≡ a → ltb 2 (length f) ≡ t → is_kind (field f 2) ≡ k
      → message_shape_lem f ≡ cond (a && k) (Ok kind) (wrong_at (first_bad_field (looked 3 (t && not k) ∷ [])))
  unfolding message_shape_lem
  message-by a t k p q r =
      ap (λ (x : Bool). cond (x && is_kind (field f 2)) (Ok kind) (wrong_at (first_bad_field (looked 3 (ltb 2 (length f) && not (is_kind (field f 2))) ∷ [])))) p
      ∙ ap₂ (λ (x y : Bool). cond (a && y) (Ok kind) (wrong_at (first_bad_field (looked 3 (x && not y) ∷ [])))) q r

  neither : {A : Type 0} (a : Bool) (x y : A) → cond (a && false) x y ≡ y
  neither true x y = refl
  neither false x y = refl

  pub message-short : eqb (length f) 3 ≡ false → ltb 2 (length f) ≡ false → wrong_at 0 ≡ message_shape_lem f
  unfolding first_bad_field
  message-short p q = sym (message-by false false (is_kind (field f 2)) p q refl)

  pub message-no-kind : ltb 2 (length f) ≡ true → None ≡ found_kind (field f 2) → wrong_at 3 ≡ message_shape_lem f
  unfolding first_bad_field
  message-no-kind q e = sym (message-by (eqb (length f) 3) true false refl q (kind-nothing (field f 2) e) ∙ neither (eqb (length f) 3) (Ok kind) (wrong_at 3))

  pub message-long : (k : Kind) → eqb (length f) 3 ≡ false → ltb 2 (length f) ≡ true → Some k ≡ found_kind (field f 2) → wrong_at 0 ≡ message_shape_lem f
  unfolding first_bad_field
  message-long k p q e = sym (message-by false true true p q (kind-is (field f 2) k e).0)

  pub message-right : (k : Kind) → eqb (length f) 3 ≡ true → ltb 2 (length f) ≡ true → Some k ≡ found_kind (field f 2) → Ok k ≡ message_shape_lem f
  message-right k p q e = ap (λ (x : Kind). Ok x) (kind-is (field f 2) k e).1 ∙ sym (message-by true true true p q (kind-is (field f 2) k e).0)

  abbrev words : Result (Controller × Stability) Field
  words = Ok (controller_of (field f 1), stability_of (field f 3))

  abbrev wrong : Bool → Bool → Bool → Bool → Result (Controller × Stability) Field
  wrong t c u s = wrong_at (first_bad_field (looked 2 (t && not c) ∷ looked 4 (u && not s) ∷ []))

  -- a state's line by its tests
  state-by : (a t c u s : Bool) → eqb (length f) 4 ≡ a → ltb 1 (length f) ≡ t → is_controller (field f 1) ≡ c → ltb 3 (length f) ≡ u → is_stability (field f 3) ≡ s
      → state_shape_lem f ≡ cond (a && (c && s)) words (wrong t c u s)
  unfolding state_shape_lem
  state-by a t c u s p q r v w =
      ap (λ (x : Bool). cond (x && (is_controller (field f 1) && is_stability (field f 3))) words (wrong (ltb 1 (length f)) (is_controller (field f 1)) (ltb 3 (length f)) (is_stability (field f 3)))) p
      ∙ ap₂ (λ (x y : Bool). cond (a && (y && is_stability (field f 3))) words (wrong x y (ltb 3 (length f)) (is_stability (field f 3)))) q r
      ∙ ap₂ (λ (x y : Bool). cond (a && (c && y)) words (wrong t c x y)) v w

  pub state-short : eqb (length f) 4 ≡ false → ltb 1 (length f) ≡ false → ltb 3 (length f) ≡ false → wrong_at 0 ≡ state_shape_lem f
  unfolding first_bad_field
  state-short p q v = sym (state-by false false (is_controller (field f 1)) false (is_stability (field f 3)) p q refl v refl)

  pub state-no-controller : ltb 1 (length f) ≡ true → None ≡ found_controller (field f 1) → wrong_at 2 ≡ state_shape_lem f
  unfolding first_bad_field
  state-no-controller q e =
      sym (state-by (eqb (length f) 4) true false (ltb 3 (length f)) (is_stability (field f 3)) refl q (controller-nothing (field f 1) e) refl refl
      ∙ neither (eqb (length f) 4) words (wrong_at 2))

  module _ (k : Controller) (g : Some k ≡ found_controller (field f 1)) (q : ltb 1 (length f) ≡ true) where
    r : is_controller (field f 1) ≡ true
    r = (controller-is (field f 1) k g).0

    pub state-cut : eqb (length f) 4 ≡ false → ltb 3 (length f) ≡ false → wrong_at 0 ≡ state_shape_lem f
    unfolding first_bad_field
    state-cut p v = sym (state-by false true true false (is_stability (field f 3)) p q r v refl)

    pub state-no-stability : ltb 3 (length f) ≡ true → None ≡ found_stability (field f 3) → wrong_at 4 ≡ state_shape_lem f
    unfolding first_bad_field
    state-no-stability v h =
        sym (state-by (eqb (length f) 4) true true true false refl q r v (stability-nothing (field f 3) h) ∙ neither (eqb (length f) 4) words (wrong_at 4))

    module _ (s : Stability) (h : Some s ≡ found_stability (field f 3)) (v : ltb 3 (length f) ≡ true) where
      pub state-long : eqb (length f) 4 ≡ false → wrong_at 0 ≡ state_shape_lem f
      unfolding first_bad_field
      state-long p = sym (state-by false true true true true p q r v (stability-is (field f 3) s h).0)

      pub state-both : eqb (length f) 4 ≡ true → Ok (k, s) ≡ state_shape_lem f
      state-both p =
          ap₂ (λ (a : Controller) (b : Stability). Ok (a, b)) (controller-is (field f 1) k g).1 (stability-is (field f 3) s h).1
          ∙ sym (state-by true true true true true p q r v (stability-is (field f 3) s h).0)

  pub event-right : eqb (length f) 2 ≡ true → Ok tt ≡ event_shape_lem f
  unfolding event_shape_lem
  event-right e = rw e

  pub event-wrong : eqb (length f) 2 ≡ false → wrong_at 0 ≡ event_shape_lem f
  unfolding event_shape_lem first_bad_field
  event-wrong e = rw e
