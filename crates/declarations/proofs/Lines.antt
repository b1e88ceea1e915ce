-- Lines that declare something: why they are refused, from what is tested, and what is then told of them.
use Prim.Native.Nat.{ℕ}
use mathlib.Core.Path.{◌≡◌, refl, sym, ap, ap₂, ◌∙◌}
use mathlib.Core.Bool.{Bool, true, false, not, cond}
use mathlib.Core.List.{List}
use native.Mathlib.Omega.{arith}
use lib.ListN.{length}
use lib.Dec.{ltb}
use Rattle.std.specs.Prelude.{Option, Result, Ok, Err, is_some, IsErrAnd, MatchResult}
use Rattle.std.proofs.lemmas.Result.{err_from_is_err_and}
use Rattle.text.specs.Parts.{split, first_index}
use Rattle.text.specs.Line.{Line}
use Rattle.text.specs.Name.{name_rule}
use Rattle.text.specs.declared.Name.{Name}
use Rattle.papers.specs.declared.refused.Refused.{Refused}
use Rattle.papers.specs.declared.refused.Field.{Field}
use Rattle.papers.specs.Checks.{field_refusal, first_of}
use Rattle.papers.specs.refused.Refused.{told_refusal, refusal_of}
use Rattle.tables.specs.declared.Tables.{Tables}
use Rattle.tables.specs.names.Names.{found}
use Rattle.lines.specs.Line.{Section, section_of}
use Rattle.lines.specs.Checks.{shaped, shape_field, later_read, bad_name, name_field, is_not_known, twice, full, stall_in_stable, conflict, section_checks}
use Rattle.lines.specs.Told.{Refuses}
use Rattle.lines.specs.shapes.Shapes.{shape_told}
use Rattle.lines.proofs.Reasons.{in-section}
use Rattle.lines.proofs.shapes.Shaped.{shape-is, shape-wrong}
use Rattle.declarations.specs.Told.{LineTold}
use Rattle.declarations.specs.named_fields.Told.{name_checks, NameTold}

-- A row of this name stands among these.
abbrev pub in_rows : {Row : Type 0} → (List ℕ → Row → Bool) → List Row → List ℕ → Bool
in_rows has rows x = ltb (first_index (has x) rows) (length rows)

-- a look-up of the field finds a row of its name where there is one
pub in_rows-by : {Row A : Type 0} (at : ℕ → A) (has : List ℕ → Row → Bool) (rows : List Row) {part x : List ℕ} {r : Option A} {d : Bool}
    → part ≡ x → r ≡ found at (first_index (has part) rows) (length rows) → d ≡ is_some r → d ≡ in_rows has rows x
in_rows-by at has rows {part} {x} {r} {d} p q w = rw (w, q, p) (go (in_rows has rows x) refl)
  where
    go : (b : Bool) → in_rows has rows x ≡ b → is_some (found at (first_index (has x) rows) (length rows)) ≡ in_rows has rows x
    go true e = rw e refl
    go false e = rw e refl

-- what a `?` passes on
passed_on : {A : Type 0} (r : Result A Refused) (y : Refused) → IsErrAnd r (λ e. e ≡ y) → r ≡ Err y
passed_on r y h = let e = err_from_is_err_and r h in e.1 ∙ ap (λ (z : Refused). Err z) e.2

same_ok : {A B : Type 0} {x y : A} → ◌≡◌ {A = Result A B} (Ok x) (Ok y) → x ≡ y
same_ok e = cc

ok_err : {A B : Type 0} {x : A} {y : B} → ◌≡◌ {A = Result A B} (Ok x) (Err y) → ⊥
ok_err e = let z : ◌≡◌ {A = ℕ} 0 1 = cc in omega arith

-- what was told of a shape whose field became a refusal
module _ {A : Type 0} (s : Section) (f : Line) (words : A) (m : Result A Field) (e : m ≡ shape_told s f words) where
  pub words-of : (w : A) → MatchResult m (λ x. ◌≡◌ {A = Result A Refused} (Ok w) (Ok x)) (λ _. ⊥) → (shaped s f ≡ true) × (w ≡ words)
  words-of w h = go m refl h
    where
      go : (n : Result A Field) → m ≡ n → MatchResult n (λ x. ◌≡◌ {A = Result A Refused} (Ok w) (Ok x)) (λ _. ⊥) → (shaped s f ≡ true) × (w ≡ words)
      go (Ok x) q g = let z = shape-is s f words x (sym q ∙ e) in (z.0, same_ok g ∙ z.1)
      go (Err x) q g = absurd g

  pub field-of : (k : ℕ) (y : Refused) (Q : Field → Type 0) → ((x : Field) → Q x → told_refusal y ≡ field_refusal 4 k x.0)
      → MatchResult m (λ x. ◌≡◌ {A = Result A Refused} (Err y) (Ok x)) Q → (shaped s f ≡ false) × (told_refusal y ≡ field_refusal 4 k (shape_field s f))
  field-of k y Q t h = go m refl h
    where
      go : (n : Result A Field) → m ≡ n → MatchResult n (λ x. ◌≡◌ {A = Result A Refused} (Err y) (Ok x)) Q → (shaped s f ≡ false) × (told_refusal y ≡ field_refusal 4 k (shape_field s f))
      go (Ok x) q g = absurd (ok_err (sym g))
      go (Err x) q g = let z = shape-wrong s f words x (sym q ∙ e) in (z.0, t x g ∙ ap (λ (i : ℕ). field_refusal 4 k i) z.1)

-- Behind these tables only the shape and the name of a line of section s are left to be told.
pub record Left (s : Section) (t : Tables) (f : Line) (d e : Bool) : Type 0 where
  pub in_time : later_read s t ≡ false
  pub known : is_not_known s t f ≡ false
  pub declared : twice s t f ≡ d
  pub no_room : full s t ≡ e
  pub no_stall : stall_in_stable s t f ≡ false
  pub no_conflict : conflict s t f ≡ false

left-told : (s : Section) (t : Tables) (k : ℕ) (f : Line) (d e : Bool) → Left s t f d e
    → first_of (section_checks s t k f) ≡ cond (not (shaped s f)) (field_refusal 4 k (shape_field s f)) (first_of (name_checks k (name_field s) (bad_name s f) d e))
unfolding first_of
left-told s t k f d e o = rw (o.in_time, o.known, o.declared, o.no_room, o.no_stall, o.no_conflict) refl

module _ {Row : Type 0} (s : Section) (ReadSo : Tables → Type 0) (row_of : Line → Row) (k : ℕ) (line : List ℕ) (here : section_of (split 9 line) ≡ s) (d e : Bool)
    (left : (t : Tables) → ReadSo t → Left s t (split 9 line) d e) where
  by_shape : (b : Bool) → shaped s (split 9 line) ≡ b → (t : Tables) → ReadSo t
      → Refuses t k line (cond (not b) (field_refusal 4 k (shape_field s (split 9 line))) (first_of (name_checks k (name_field s) (bad_name s (split 9 line)) d e)))
  by_shape b q t o =
      in-section t k (split 9 line) s here ∙ left-told s t k (split 9 line) d e (left t o)
      ∙ ap (λ (x : Bool). cond (not x) (field_refusal 4 k (shape_field s (split 9 line))) (first_of (name_checks k (name_field s) (bad_name s (split 9 line)) d e))) q

  -- refused for its shape
  pub misshapen : (r : Result Row Refused) (y : Refused) → IsErrAnd r (λ z. z ≡ y) → shaped s (split 9 line) ≡ false → told_refusal y ≡ field_refusal 4 k (shape_field s (split 9 line)) → LineTold ReadSo row_of k line r
  misshapen r y q h w = rw (passed_on r y q) (record { told = λ t o. by_shape false h t o ∙ sym w; row = tt })

  module _ {g : Bool} {part : List ℕ} (same : g ≡ d) (bad : not (name_rule part) ≡ bad_name s (split 9 line)) (right : shaped s (split 9 line) ≡ true) where
    by_name : {r : Result Name Refused} → NameTold k (name_field s) part g e r → (t : Tables) → ReadSo t → Refuses t k line (refusal_of r)
    by_name n t o = by_shape true right t o ∙ ap₂ (λ (x y : Bool). first_of (name_checks k (name_field s) x y e)) (sym bad) (sym same) ∙ sym n.told

    -- refused for its name
    pub misnamed : (r : Result Row Refused) (y : Refused) → IsErrAnd r (λ z. z ≡ y) → NameTold k (name_field s) part g e (Err y) → LineTold ReadSo row_of k line r
    misnamed r y q n = rw (passed_on r y q) (record { told = by_name n; row = tt })

    -- taken
    pub taken : (name : Name) (row : Row) → NameTold k (name_field s) part g e (Ok name) → row ≡ row_of (split 9 line) → LineTold ReadSo row_of k line (Ok row)
    taken name row n q = record { told = by_name n; row = q }
