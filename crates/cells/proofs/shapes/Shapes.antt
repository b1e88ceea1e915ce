-- The shape of a cell's line.
use Prim.Native.Nat.{ℕ, ◌≤◌, ◌<◌}
use mathlib.Core.Path.{◌≡◌, refl, subst}
use mathlib.Core.Bool.{Bool, true, false, not, ◌&&◌, ◌||◌, cond, and-false}
use mathlib.Core.Logic.{◌⊎◌, inl, inr}
use mathlib.Core.List.{List, [], ◌∷◌}
use native.Mathlib.Omega.{arith}
use lib.ListN.{length}
use lib.Dec.{eqb, ltb, leb}
use borrow.Author.Tests.{eq-eqb, ne_eqb, eqb-true, lt-ltb, le-ltb, le-leb, lt-leb, leb-true}
use Rattle.std.specs.Prelude.{Some, None, Ok, Err}
use Rattle.papers.specs.declared.refused.Field.{Field}
use Rattle.papers.specs.Fields.{looked, first_bad_field}
use Rattle.papers.specs.declared.records.Record.{Record}
use Rattle.papers.proofs.Recorded.{few, counted, many}
use Rattle.text.specs.Parts.{split, is_same_text}
use Rattle.text.specs.Words.{stall_word, go_word}
use Rattle.tables.specs.declared.Controller.{Controller}
use Rattle.text.specs.Line.{Line, field, says}
use Rattle.lines.specs.Line.{cell, is_controller, cell_controller}
use Rattle.lines.specs.Checks.{shaped, stall_shape, go_shape, shape_field}
use Rattle.lines.specs.words.Found.{found_controller}
use Rattle.lines.proofs.shapes.Shaped.{wrong_at, shape-is, shape-wrong}
use Rattle.lines.proofs.words.Words.{controller-is, controller-nothing}
use Rattle.lines.proofs.Sections.{other_word}
use Rattle.lines.proofs.Both.{and_left, and_right}
use Rattle.cells.specs.declared.shapes.Shape.{Shape}
use Rattle.cells.specs.declared.shapes.Shape.TheVariants.{Stall, Go}
use Rattle.cells.specs.shapes.Shape.{shape_of, StallLine, GoLine}

-- ---- the count of fields

module _ (r : Record) where
  abbrev line : List ℕ
  line = r.bytes.now

  -- a count past fourteen says that there are more
  pub count_long : 14 < r.fields.count → 15 ≤ length (split 9 line)
  count_long h = omega (arith, few r, many r)

  -- what is counted is there, also where there is more
  pub count-there : r.fields.count ≤ length (split 9 line)
  count-there = grind (arith, few r, counted r, many r)

-- ---- each way to a shape

module _ (f : Line) where
  abbrev way : Shape
  way = cond (stall_shape f) (Stall (cell_controller f)) (Go (cell_controller f))

  -- a line that is not shaped
  wrong : (x : ℕ) → shaped cell f ≡ false → shape_field cell f ≡ x → wrong_at x ≡ shape_of f
  unfolding shape_of
  wrong x p e = rw (p, e)

  -- a line that neither stalls nor goes on is wrong, whosever it is
  neither : (x : ℕ) → stall_shape f ≡ false → go_shape f ≡ false → shape_field cell f ≡ x → wrong_at x ≡ shape_of f
  neither x p q = wrong x (rw (p, q) (and-false (is_controller (field f 1))))

  abbrev told : Bool → Bool → Bool → Bool → Bool → ℕ
  told t a u s g = first_bad_field (looked 2 (t && not a) ∷ looked 5 (u && not (s || g)) ∷ [])

  -- the field by its tests: whether each word is there, and what it says
  field-by : (t a u s g : Bool) → ltb 1 (length f) ≡ t → is_controller (field f 1) ≡ a → ltb 4 (length f) ≡ u → says f 4 stall_word ≡ s → says f 4 go_word ≡ g
      → shape_field cell f ≡ told t a u s g
  field-by t a u s g p q r v w = rw (p, q, r, v, w)

  -- ---- the two words

  -- `go` is not `stall`
  other : says f 4 go_word ≡ true → says f 4 stall_word ≡ false
  unfolding is_same_text
  other w = other_word (field f 4) go_word stall_word w refl

  other-go : says f 4 stall_word ≡ true → says f 4 go_word ≡ false
  unfolding is_same_text
  other-go w = other_word (field f 4) stall_word go_word w refl

  not_five : (length f ≡ 5 → ⊥) → stall_shape f ≡ false
  not_five h = rw (ne_eqb (length f) 5 h)

  five : length f ≡ 5 → stall_shape f ≡ says f 4 stall_word
  five h = rw (eq-eqb (length f) 5 h)

  no-stall : says f 4 stall_word ≡ false → stall_shape f ≡ false
  no-stall w = rw w (and-false (eqb (length f) 5))

  under : length f < 6 → go_shape f ≡ false
  under h = rw (lt-leb 6 (length f) h)

  over : 14 < length f → go_shape f ≡ false
  over h = rw (lt-leb (length f) 14 h, and-false (leb 6 (length f)))

  between : 6 ≤ length f → length f ≤ 14 → go_shape f ≡ says f 4 go_word
  between h k = rw (le-leb 6 (length f) h, le-leb (length f) 14 k)

  no-go : says f 4 go_word ≡ false → go_shape f ≡ false
  no-go w = rw w (and-false (leb 6 (length f) && leb (length f) 14))

  -- ---- each return

  pub too_short : length f < 2 → wrong_at 0 ≡ shape_of f
  unfolding first_bad_field
  too_short h =
      neither 0 (not_five (λ e. omega arith)) (under (omega arith))
      (field-by false (is_controller (field f 1)) false (says f 4 stall_word) (says f 4 go_word) (le-ltb 1 (length f) (omega arith)) refl
      (le-ltb 4 (length f) (omega arith)) refl refl)

  pub no-controller : 2 ≤ length f → None ≡ found_controller (field f 1) → wrong_at 2 ≡ shape_of f
  unfolding first_bad_field
  no-controller h e =
      let n = controller-nothing (field f 1) e in
      wrong 2 (rw n)
      (field-by true false (ltb 4 (length f)) (says f 4 stall_word) (says f 4 go_word) (lt-ltb 1 (length f) (omega arith)) n refl refl refl)

  module _ (whose : Controller) (e : Some whose ≡ found_controller (field f 1)) where
    is : is_controller (field f 1) ≡ true
    is = (controller-is (field f 1) whose e).0

    same : whose ≡ cell_controller f
    same = (controller-is (field f 1) whose e).1

    pub cut : 2 ≤ length f → length f < 5 → wrong_at 0 ≡ shape_of f
    unfolding first_bad_field
    cut h k =
        neither 0 (not_five (λ q. omega arith)) (under (omega arith))
        (field-by true true false (says f 4 stall_word) (says f 4 go_word) (lt-ltb 1 (length f) (omega arith)) is (le-ltb 4 (length f) (omega arith)) refl refl)

    -- the field where both words are there
    both : (s g : Bool) → 5 ≤ length f → says f 4 stall_word ≡ s → says f 4 go_word ≡ g → shape_field cell f ≡ told true true true s g
    both s g h v w = field-by true true true s g (lt-ltb 1 (length f) (omega arith)) is (lt-ltb 4 (length f) (omega arith)) v w

    pub five-stall : length f ≡ 5 → says f 4 stall_word ≡ true → Ok (Stall whose) ≡ shape_of f
    unfolding shape_of
    five-stall h w = rw (same, is, five h, w)

    pub more-stall : 6 ≤ length f → says f 4 stall_word ≡ true → wrong_at 0 ≡ shape_of f
    unfolding first_bad_field
    more-stall h w = neither 0 (not_five (λ q. omega arith)) (no-go (other-go w)) (both true false (omega arith) w (other-go w))

    pub five-go : length f ≡ 5 → says f 4 go_word ≡ true → wrong_at 0 ≡ shape_of f
    unfolding first_bad_field
    five-go h w = neither 0 (no-stall (other w)) (under (omega arith)) (both false true (omega arith) (other w) w)

    pub too_long : 15 ≤ length f → says f 4 go_word ≡ true → wrong_at 0 ≡ shape_of f
    unfolding first_bad_field
    too_long h w = neither 0 (no-stall (other w)) (over (omega arith)) (both false true (omega arith) (other w) w)

    pub more-go : 6 ≤ length f → length f ≤ 14 → says f 4 go_word ≡ true → Ok (Go whose) ≡ shape_of f
    unfolding shape_of
    more-go h k w = rw (same, is, no-stall (other w), between h k, w)

    pub no_word : 5 ≤ length f → says f 4 stall_word ≡ false → says f 4 go_word ≡ false → wrong_at 5 ≡ shape_of f
    unfolding first_bad_field
    no_word h v w = neither 5 (no-stall v) (no-go w) (both false false h v w)

  -- ---- what a shape tells

  stalls : shaped cell f ≡ true → stall_shape f ≡ true → StallLine f (cell_controller f)
  stalls p q =
      record {
        shape = p;
        is = refl;
        word = and_right (eqb (length f) 5) (says f 4 stall_word) q;
        long = eqb-true (length f) 5 (and_left (eqb (length f) 5) (says f 4 stall_word) q);
      }

  goes : shaped cell f ≡ true → stall_shape f ≡ false → GoLine f (cell_controller f)
  goes p q =
      let r : go_shape f ≡ true = rw q at (and_right (is_controller (field f 1)) (stall_shape f || go_shape f) p) in
      let n = and_left (leb 6 (length f) && leb (length f) 14) (says f 4 go_word) r in
      record {
        shape = p;
        is = refl;
        word = other (and_right (leb 6 (length f) && leb (length f) 14) (says f 4 go_word) r);
        some = leb-true 6 (length f) (and_left (leb 6 (length f)) (leb (length f) 14) n);
        few = leb-true (length f) 14 (and_right (leb 6 (length f)) (leb (length f) 14) n);
      }

  -- a shaped line stalls or goes on
  pub shaped-way : shaped cell f ≡ true → StallLine f (cell_controller f) ⊎ GoLine f (cell_controller f)
  shaped-way e = go (stall_shape f) refl
    where
      go : (b : Bool) → stall_shape f ≡ b → StallLine f (cell_controller f) ⊎ GoLine f (cell_controller f)
      go true q = inl (stalls e q)
      go false q = inr (goes e q)

  pub wrong-shape : (x : Field) → Err x ≡ shape_of f → (shaped cell f ≡ false) × (x.0 ≡ shape_field cell f)
  unfolding shape_of
  wrong-shape x e = shape-wrong cell f way x e

  pub right-shape : (s : Shape) → Ok s ≡ shape_of f → (shaped cell f ≡ true) × (s ≡ way)
  unfolding shape_of
  right-shape s e = shape-is cell f way s e

  pub stall-shape : (whose : Controller) → Ok (Stall whose) ≡ shape_of f → StallLine f whose
  stall-shape whose e = go (right-shape (Stall whose) e) (stall_shape f) refl
    where
      go : (shaped cell f ≡ true) × (Stall whose ≡ way) → (b : Bool) → stall_shape f ≡ b → StallLine f whose
      go s true q = let y : cell_controller f ≡ whose = (let z = rw q at s.1 in cc) in subst (StallLine f) y (stalls s.0 q)
      go s false q = absurd (let z = rw q at s.1 in cc)

  pub go-shape : (whose : Controller) → Ok (Go whose) ≡ shape_of f → GoLine f whose
  go-shape whose e = go (right-shape (Go whose) e) (stall_shape f) refl
    where
      go : (shaped cell f ≡ true) × (Go whose ≡ way) → (b : Bool) → stall_shape f ≡ b → GoLine f whose
      go s true q = absurd (let z = rw q at s.1 in cc)
      go s false q = let y : cell_controller f ≡ whose = (let z = rw q at s.1 in cc) in subst (GoLine f) y (goes s.0 q)
