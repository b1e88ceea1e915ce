-- Laws of a mapping's line: its shape, and the first of its checks.
use mathlib.Core.Path.{◌≡◌, refl, sym, ap, ◌∙◌}
use mathlib.Core.Bool.{Bool, true, false, not, ◌&&◌, cond, and-false}
use mathlib.Core.List.{List, [], ◌∷◌}
use Prim.Native.Nat.{ℕ, ◌<◌, ◌≤◌}
use native.Mathlib.Omega.{arith}
use lib.ListN.{length}
use lib.Dec.{eqb}
use borrow.Author.Tests.{eqb-true, eq-eqb, ne_eqb, le-leb, lt-leb}
use Rattle.text.specs.Parts.{is_same_text, split}
use Rattle.rules.specs.Numbers.{as_network}
use Rattle.text.specs.Line.{Line, field, says}
use Rattle.text.specs.Name.{name_text}
use Rattle.text.specs.Words.{map_word}
use Rattle.papers.specs.Checks.{Check, check, field_check, refusal, field_refusal, none, first_of}
use Rattle.papers.specs.Fields.{looked, first_bad_field}
use Rattle.papers.proofs.Checks.{first-given, first-passed}
use Rattle.papers.proofs.Fields.{bad-first, good-first}
use Rattle.papers.proofs.Recorded.{counted, count-short}
use Rattle.papers.specs.declared.refused.Field.{Field}
use Rattle.papers.specs.declared.refused.Refused.{Refused}
use Rattle.papers.specs.refused.Refused.{told_refusal}
use Rattle.papers.specs.declared.records.Record.{Record}
use Rattle.std.specs.Prelude.{Result, Ok, Err, ⊤}
use Rattle.rules.specs.declared.Network.{Network}
use Rattle.tables.specs.declared.MessageRow.{MessageRow}
use Rattle.mapping.specs.networks.Networks.{network_of_lem, is_network}
use Rattle.mapping.specs.lines.Line.{map_shaped, map_shape_field, map_shape, maps_full, matches, match_field, map_refusal, MapTold}

-- ---- the shape

-- a field that is wrong
abbrev pub wrong_at : ℕ → Result ⊤ Field
wrong_at n = Err (record { 0 = n })

module _ (f : Line) where
  abbrev shape_by : Bool → Result ⊤ Field
  shape_by t = cond t (Ok tt) (wrong_at (map_shape_field f))

  wrong-by : (n : ℕ) → map_shaped f ≡ false → map_shape_field f ≡ n → wrong_at n ≡ map_shape f
  unfolding map_shape
  wrong-by n e q = ap wrong_at (sym q) ∙ sym (ap shape_by e)

  -- the word is another
  pub shape-word : says f 0 map_word ≡ false → wrong_at 1 ≡ map_shape f
  shape-word e =
      wrong-by 1 (ap (λ (t : Bool). eqb (length f) 3 && t) e ∙ and-false (eqb (length f) 3)) (bad-first (looked 1 (not (says f 0 map_word))) [] (ap not e))

  module _ (w : says f 0 map_word ≡ true) where
    -- only the number of fields is another
    pub shape-length : (length f ≡ 3 → ⊥) → wrong_at 0 ≡ map_shape f
    unfolding first_bad_field
    shape-length h =
        wrong-by 0 (ap (λ (t : Bool). t && says f 0 map_word) (ne_eqb (length f) 3 h)) (good-first (looked 1 (not (says f 0 map_word))) [] (ap not w))

    pub shape_is : length f ≡ 3 → Ok tt ≡ map_shape f
    unfolding map_shape
    shape_is h = sym (ap shape_by (ap (λ (t : Bool). t && says f 0 map_word) (eq-eqb (length f) 3 h) ∙ w))

  -- from what was told
  pub is-shaped : (u : ⊤) → map_shape f ≡ Ok u → map_shaped f ≡ true
  unfolding map_shape
  is-shaped u e = go (map_shaped f) refl
    where
      go : (t : Bool) → map_shaped f ≡ t → map_shaped f ≡ true
      go true q = q
      go false q = absurd (let z : Ok u ≡ wrong_at (map_shape_field f) = sym e ∙ ap shape_by q in let k : ◌≡◌ {A = ℕ} 0 1 = cc in omega arith)

  pub wrong-shaped : (x : Field) → map_shape f ≡ Err x → (map_shaped f ≡ false) × (map_shape_field f ≡ x.0)
  unfolding map_shape
  wrong-shaped x e = go (map_shaped f) refl
    where
      go : (t : Bool) → map_shaped f ≡ t → (map_shaped f ≡ false) × (map_shape_field f ≡ x.0)
      go true q = absurd (let z : Err x ≡ Ok tt = sym e ∙ ap shape_by q in let k : ◌≡◌ {A = ℕ} 0 1 = cc in omega arith)
      go false q = (q, let z : ◌≡◌ {A = Result ⊤ Field} (Err x) (wrong_at (map_shape_field f)) = sym e ∙ ap shape_by q in cc)

shaped-three : (f : Line) → map_shaped f ≡ true → length f ≡ 3
shaped-three f e = go (eqb (length f) 3) refl
  where
    go : (t : Bool) → eqb (length f) 3 ≡ t → length f ≡ 3
    go true q = eqb-true (length f) 3 q
    go false q = absurd (let z : ◌≡◌ {A = Bool} false true = ap (λ (t : Bool). t && says f 0 map_word) (sym q) ∙ e in let k : ◌≡◌ {A = ℕ} 0 1 = cc in omega arith)

-- how many fields a record has
module _ (r : Record) where
  abbrev line : List ℕ
  line = r.bytes.now

  pub shaped-count : map_shaped (split 9 line) ≡ true → r.fields.count ≡ 3
  shaped-count h = let e = shaped-three (split 9 line) h in count-short r (omega arith) ∙ e

  pub three : r.fields.count ≡ 3 → length (split 9 line) ≡ 3
  three e = counted r (omega arith) ∙ e

  pub not-three : (r.fields.count ≡ 3 → ⊥) → length (split 9 line) ≡ 3 → ⊥
  not-three h e = h (count-short r (omega arith) ∙ e)

-- ---- the first of a line's checks

module _ (most before k : ℕ) (f : Line) where
  abbrev shape : Check
  shape = field_check 4 k (map_shape_field f) (not (map_shaped f))

  abbrev full : Check
  full = check 9 k (maps_full most before)

  abbrev match : List MessageRow → Check
  match next = field_check 14 k (match_field next) (not (matches next (field f 1)))

  abbrev network : Check
  network = field_check 15 k 3 (not (is_network most (field f 2)))

  pub line-shape : (next : List MessageRow) → map_shaped f ≡ false → map_refusal most before next k f ≡ field_refusal 4 k (map_shape_field f)
  unfolding map_refusal
  line-shape next e = first-given shape (full ∷ match next ∷ network ∷ []) (ap not e)

  module _ (s : map_shaped f ≡ true) where
    pub line-full : (next : List MessageRow) → most ≤ before → map_refusal most before next k f ≡ refusal 9 k
    unfolding map_refusal
    line-full next h = first-passed shape (full ∷ match next ∷ network ∷ []) (ap not s) ∙ first-given full (match next ∷ network ∷ []) (le-leb most before h)

    module _ (room : before < most) where
      -- past the first two
      after-full : (next : List MessageRow) → map_refusal most before next k f ≡ first_of (match next ∷ network ∷ [])
      unfolding map_refusal
      after-full next = first-passed shape (full ∷ match next ∷ network ∷ []) (ap not s) ∙ first-passed full (match next ∷ network ∷ []) (lt-leb most before room)

      pub line-many : map_refusal most before [] k f ≡ refusal 14 k
      line-many = after-full [] ∙ first-given (match []) (network ∷ []) refl

      module _ (m : MessageRow) where
        pub line-unmatched : is_same_text (name_text m.name) (field f 1) ≡ false → map_refusal most before (m ∷ []) k f ≡ field_refusal 14 k 2
        line-unmatched q = after-full (m ∷ []) ∙ first-given (match (m ∷ [])) (network ∷ []) (ap not q)

        module _ (q : is_same_text (name_text m.name) (field f 1) ≡ true) where
          pub line-no-network : is_network most (field f 2) ≡ false → map_refusal most before (m ∷ []) k f ≡ field_refusal 15 k 3
          line-no-network e =
              after-full (m ∷ []) ∙ first-passed (match (m ∷ [])) (network ∷ []) (ap not q)
              ∙ first-given network [] (ap not e)

          pub line-passes : is_network most (field f 2) ≡ true → map_refusal most before (m ∷ []) k f ≡ none
          unfolding first_of
          line-passes e =
              after-full (m ∷ []) ∙ first-passed (match (m ∷ [])) (network ∷ []) (ap not q)
              ∙ first-passed network [] (ap not e)

  -- only the next message is asked for
  pub line-next : (m : MessageRow) (next : List MessageRow) → map_refusal most before (m ∷ next) k f ≡ map_refusal most before (m ∷ []) k f
  unfolding map_refusal
  line-next m next = refl

-- ---- what a line gives

module _ (most k : ℕ) (m : MessageRow) (f : Line) where
  -- it is refused
  pub gives_none : (r : Refused) → ((before : ℕ) → before < most → map_refusal most before (m ∷ []) k f ≡ told_refusal r) → MapTold most k m f (Err r)
  gives_none r e = record { told = λ before room. sym (e before room); network = tt }

  -- it gives its network
  pub gives-network : (n : Network) → ((before : ℕ) → before < most → map_refusal most before (m ∷ []) k f ≡ none) → n ≡ as_network (network_of_lem most (field f 2)) → MapTold most k m f (Ok n)
  gives-network n e q = record { told = λ before room. sym (e before room); network = q }
