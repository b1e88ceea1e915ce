-- Laws of the fields of a line: the loop that fills the places, and what a reader knows of them.
use mathlib.Core.Path.{◌≡◌, refl, sym, ap, ◌∙◌, subst}
use mathlib.Core.List.{List, [], ◌∷◌, ◌++◌, append_assoc, append-nil}
use mathlib.Core.Logic.{◌⊎◌, inl, inr, ⊎_elim}
use Prim.Native.Nat.{ℕ, zero, suc, ◌+◌, ◌-◌, ◌≤◌, ◌<◌}
use native.Mathlib.Omega.{arith}
use native.Mathlib.Nat.{eq-or-lt_of_le}
use lib.ListN.{length, take, get_or, set, replicate, length-append, length-take, get_or-append}
use lib.Seq.{set_at, take_at, take_all, get_or-take}
use Rattle.text.specs.declared.Fields.{Fields}
use Rattle.text.specs.declared.Span.{Span}
use Rattle.text.specs.Parts.{part, place}
use Rattle.text.specs.Fields.{marks, span, no_span, padded, line_fields_lem, fields_of}
use Rattle.text.proofs.Parts.{length_part, place-from, place-to}
use Rattle.text.proofs.Lines.{after, after_none, after-some, split-many, split-part}

module _ {A : Type 0} (f : ℕ → ℕ → A) where
  pub length-marks : (a : ℕ) (ps : List (List ℕ)) → length (marks f a ps) ≡ length ps
  unfolding marks
  length-marks a [] = refl
  length-marks a (p ∷ ps) = ap suc (length-marks (a + length p + 1) ps)

  pub marks-take : (k a : ℕ) (ps : List (List ℕ)) → marks f a (take k ps) ≡ take k (marks f a ps)
  unfolding marks
  marks-take zero a [] = refl
  marks-take zero a (p ∷ ps) = refl
  marks-take (suc k) a [] = refl
  marks-take (suc k) a (p ∷ ps) = ap (λ (l : List A). f a (length p) ∷ l) (marks-take k (a + length p + 1) ps)

-- Of the spans of `all`, which starts at `a`, n are written, and spans of no field stand behind them; those of `rest`, which starts at `at`, are to come.
pub record Filling (a : ℕ) (all : List (List ℕ)) (n at : ℕ) (rest : List (List ℕ)) (xs : List Span) : Type 0 where
  pub done : List Span
  pub long : length done ≡ n
  pub now : xs ≡ done ++ replicate (15 - n) no_span
  pub goal : done ++ marks span at rest ≡ marks span a all

module _ (a : ℕ) (all : List (List ℕ)) where
  pub fill_none : Filling a all 0 a all (replicate 15 no_span)
  fill_none = record { done = []; long = refl; now = refl; goal = refl }

  -- one span more
  pub fill_more : (n at : ℕ) (p : List ℕ) (ps : List (List ℕ)) (xs : List Span) → Filling a all n at (p ∷ ps) xs → n < 15
      → Filling a all (n + 1) (at + length p + 1) ps (set xs n (span at (length p)))
  unfolding marks
  fill_more n at p ps xs g h =
      let x = span at (length p) in
      let d = g.done in
      let q : 15 - n ≡ suc (15 - (n + 1)) = omega arith in
      record {
        done = d ++ (x ∷ []);
        long = length-append d (x ∷ []) ∙ ap (λ (k : ℕ). k + 1) g.long;
        now =
            ap (λ (l : List Span). set l n x) (g.now ∙ ap (λ (k : ℕ). d ++ replicate k no_span) q)
            ∙ set_at d no_span (replicate (15 - (n + 1)) no_span) x n g.long ∙ sym (append_assoc d (x ∷ []) (replicate (15 - (n + 1)) no_span));
        goal = append_assoc d (x ∷ []) (marks span (at + length p + 1) ps) ∙ g.goal;
      }

  -- all that fit are written
  module _ (n at : ℕ) (rest : List (List ℕ)) (xs : List Span) (g : Filling a all n at rest xs) (h : n ≤ 15) (e : (rest ≡ []) ⊎ (n ≡ 15)) where
    pub fill-all : marks span a (take 15 all) ≡ g.done
    unfolding marks
    fill-all =
        marks-take span 15 a all ∙ ap (take 15) (sym g.goal)
        ∙ ⊎_elim
        (λ (q : rest ≡ []). ap (λ (ps : List (List ℕ)). take 15 (g.done ++ marks span at ps)) q ∙ ap (take 15) (append-nil g.done) ∙ take_all 15 g.done (omega (arith, g.long)))
        (λ (q : n ≡ 15). take_at g.done (marks span at rest) 15 (g.long ∙ q)) e

    pub fill-count : n ≡ length (take 15 all)
    fill-count = sym g.long ∙ ap length (sym fill-all) ∙ length-marks span a (take 15 all)

    pub fill-places : xs ≡ padded (marks span a (take 15 all))
    fill-places = g.now ∙ ap (λ (k : ℕ). g.done ++ replicate (15 - k) no_span) (sym g.long) ∙ ap padded (sym fill-all)

-- ---- the loop

-- The spans of the first n fields are written, the last of which ends at e.
pub record Filled (text : List ℕ) (a t n e : ℕ) (xs : List Span) : Type 0 where
  pub few : n ≤ 15
  pub some : 1 ≤ n
  pub from : a ≤ e
  pub to : e ≤ t
  pub spans : Filling a (line_fields_lem text a t) n (e + 1) (after 9 text e t) xs

module _ (text : List ℕ) (a t : ℕ) where
  -- the next field starts at s
  step : (n s : ℕ) (rest : List (List ℕ)) (xs : List Span) → s ≤ t → t ≤ length text → n < 15
      → rest ≡ line_fields_lem text s t → Filling a (line_fields_lem text a t) n s rest xs
      → Filling a (line_fields_lem text a t) (n + 1) (place 9 text s t + 1) (after 9 text (place 9 text s t) t) (set xs n (record { from = s; to = place 9 text s t }))
  step n s rest xs h k m q g =
      let e = place 9 text s t in
      let from = place-from 9 text s t h k in
      let to = place-to 9 text s t h k in
      let long : s + length (part text s e) ≡ e = omega (arith, length_part text s e (omega arith)) in
      let more = fill_more a (line_fields_lem text a t) n s (part text s e) (after 9 text e t) xs
      (subst (λ (ps : List (List ℕ)). Filling a (line_fields_lem text a t) n s ps xs) (q ∙ split-part 9 text s t h k) g) m in
      subst (λ (j : ℕ). Filling a (line_fields_lem text a t) (n + 1) (j + 1) (after 9 text e t) (set xs n (record { from = s; to = j }))) long more

  module _ (h : a ≤ t) (k : t ≤ length text) where
    pub filled-first : Filled text a t 1 (place 9 text a t) (set (replicate 15 no_span) 0 (record { from = a; to = place 9 text a t }))
    filled-first =
        record {
          few = omega arith;
          some = omega arith;
          from = place-from 9 text a t h k;
          to = place-to 9 text a t h k;
          spans = step 0 a (line_fields_lem text a t) (replicate 15 no_span) h k (omega arith) refl (fill_none a (line_fields_lem text a t));
        }

    pub filled_more : (n e : ℕ) (xs : List Span) → Filled text a t n e xs → n < 15 → e < t
        → Filled text a t (n + 1) (place 9 text (e + 1) t) (set xs n (record { from = e + 1; to = place 9 text (e + 1) t }))
    filled_more n e xs g m l =
        let s = e + 1 in
        let from = place-from 9 text s t (omega arith) k in
        record {
          few = omega arith;
          some = omega arith;
          from = omega (arith, g.from);
          to = place-to 9 text s t (omega arith) k;
          spans = step n s (after 9 text e t) xs (omega arith) k m (after-some 9 text e t l) g.spans;
        }

  -- there are no more, or there is no room for more
  pub filled-all : (n e : ℕ) (xs : List Span) → Filled text a t n e xs → (t ≤ e) ⊎ (n ≡ 15) → record { count = n; spans = xs } ≡ fields_of text a t
  unfolding fields_of
  filled-all n e xs g o =
      let rest = after 9 text e t in
      let end : (rest ≡ []) ⊎ (n ≡ 15) = ⊎_elim (λ (q : t ≤ e). inl (after_none 9 text e t q)) (λ (q : n ≡ 15). inr q) o in
      same (fill-count a (line_fields_lem text a t) n (e + 1) rest xs g.spans g.few end)
      (fill-places a (line_fields_lem text a t) n (e + 1) rest xs g.spans g.few end)
    where
      same : {m m' : ℕ} {l l' : List Span} → m ≡ m' → l ≡ l'
          → ◌≡◌ {A = Fields} (record { count = m; spans = l }) (record { count = m'; spans = l' })
      same p q = cc

-- ---- what a reader knows

-- A field, which is p, stands in the line from a to t at this span.
pub record FieldAt (text : List ℕ) (a t : ℕ) (s : Span) (p : List ℕ) : Type 0 where
  pub from : a ≤ s.from
  pub order : s.from ≤ s.to
  pub to : s.to ≤ t
  pub bytes : part text s.from s.to ≡ p

module _ (text : List ℕ) where
  at_mark : (i a t : ℕ) → a ≤ t → t ≤ length text → i < length (line_fields_lem text a t)
      → FieldAt text a t (get_or (marks span a (line_fields_lem text a t)) i no_span) (get_or (line_fields_lem text a t) i [])
  unfolding marks
  at_mark zero a t h k m =
      let e = place 9 text a t in
      let from = place-from 9 text a t h k in
      let to = place-to 9 text a t h k in
      let long : a + length (part text a e) ≡ e = omega (arith, length_part text a e (omega arith)) in
      rw (split-part 9 text a t h k, long) (record { from = omega arith; order = from; to = to; bytes = refl })
  at_mark (suc i) a t h k m =
      let e = place 9 text a t in
      let from = place-from 9 text a t h k in
      let to = place-to 9 text a t h k in
      let long : a + length (part text a e) ≡ e = omega (arith, length_part text a e (omega arith)) in
      let cut = split-part 9 text a t h k in
      ⊎_elim
      (λ (q : e ≡ t). absurd (omega (arith, ap length (cut ∙ ap (λ (ps : List (List ℕ)). part text a e ∷ ps) (after_none 9 text e t (omega arith))))))
      (λ (q : e < t).
      let r = after-some 9 text e t q in
      let g = at_mark i (e + 1) t (omega arith) k (omega (arith, ap length (cut ∙ ap (λ (ps : List (List ℕ)). part text a e ∷ ps) r))) in
      rw (cut, long, r) (record { from = omega (arith, g.from); order = g.order; to = g.to; bytes = g.bytes }))
      (eq-or-lt_of_le to)

  module _ (a t : ℕ) where
    pub count-few : (fields_of text a t).count < 15 → length (line_fields_lem text a t) ≡ (fields_of text a t).count
    unfolding fields_of
    count-few h = omega (arith, length-take 15 (line_fields_lem text a t))

    pub count-full : (fields_of text a t).count ≡ 15 → 15 ≤ length (line_fields_lem text a t)
    unfolding fields_of
    count-full h = omega (arith, length-take 15 (line_fields_lem text a t))

    pub count-le : (fields_of text a t).count ≤ 15
    unfolding fields_of
    count-le = omega (arith, length-take 15 (line_fields_lem text a t))

    -- an empty line has one field too
    pub count-some : 1 ≤ (fields_of text a t).count
    unfolding fields_of
    count-some = omega (arith, length-take 15 (line_fields_lem text a t), split-many 9 (part text a t))

    -- the field at i
    pub field_at : (i : ℕ) → a ≤ t → t ≤ length text → i < (fields_of text a t).count
        → FieldAt text a t (get_or (fields_of text a t).spans i no_span) (get_or (line_fields_lem text a t) i [])
    unfolding fields_of
    field_at i h k m =
        let ps = line_fields_lem text a t in
        let xs = marks span a (take 15 ps) in
        let e = get_or-append xs (replicate (15 - length xs) no_span) no_span i (omega (arith, length-marks span a (take 15 ps)))
        ∙ ap (λ (l : List Span). get_or l i no_span) (marks-take span 15 a ps) ∙ get_or-take 15 (marks span a ps) i no_span (omega (arith, length-take 15 ps)) in
        rw e (at_mark i a t h k (omega (arith, length-take 15 ps)))
