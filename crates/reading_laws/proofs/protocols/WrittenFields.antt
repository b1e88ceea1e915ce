-- The fields of a line that passes its checks are those of the record that it stands for.
use Prim.Native.Nat.{ℕ}
use mathlib.Core.Path.{◌≡◌, refl, sym}
use mathlib.Core.Bool.{Bool, true, false, ◌&&◌, ◌||◌, cond}
use mathlib.Core.List.{List, []}
use native.Mathlib.Omega.{arith}
use lib.ListN.{length, drop_of_length-le}
use lib.Seq.{drop-cons}
use lib.Dec.{eqb}
use borrow.Author.Tests.{eqb-true}
use Rattle.text.specs.Parts.{is_same_text}
use Rattle.text.specs.Words.{message_word, event_word, state_word, req_word, fwd_word, data_word, ctl_word, cache_word, dir_word, stable_word, transient_word}
use Rattle.text.proofs.Parts.{same_true}
use Rattle.text.proofs.NameLaws.{name-text}
use Rattle.tables.specs.declared.Kind.TheVariants.{Req, Fwd, Data, Ctl}
use Rattle.tables.specs.declared.Controller.TheVariants.{Cache, Dir}
use Rattle.tables.specs.declared.Stability.TheVariants.{Stable, Transient}
use Rattle.text.specs.Line.{Line, field, says}
use Rattle.lines.specs.Line.{Section, message, event, state, section_of, is_kind, kind_of, is_controller, controller_of, is_stability, stability_of, message_of, event_of, state_of}
use Rattle.lines.specs.Checks.{shaped}
use Rattle.lines.proofs.Both.{and_left, and_right}
use Rattle.reading_laws.specs.protocols.Written.{kind_word, controller_word, stability_word, message_fields, event_fields, state_fields}
use Rattle.lines.proofs.Sections.{not_in}

-- ---- fixed words

-- a test that cannot fail holds
holds : (b : Bool) → (b ≡ false → ⊥) → b ≡ true
holds true f = refl
holds false f = absurd (f refl)

pub first_word : (f : Line) (word : List ℕ) (s : Section) → (says f 0 word ≡ false → section_of f ≡ s → ⊥) → section_of f ≡ s → field f 0 ≡ word
first_word f word s g e = same_true (field f 0) word (holds (says f 0 word) (λ q. g q e))

module _ (x : List ℕ) where
  kind-word : is_kind x ≡ true → kind_word (kind_of x) ≡ x
  kind-word e = go (is_same_text x req_word) (is_same_text x fwd_word) (is_same_text x data_word) (is_same_text x ctl_word) (same_true x req_word) (same_true x fwd_word) (same_true x data_word) (same_true x ctl_word) e
    where
      go : (a b c d : Bool) → (a ≡ true → x ≡ req_word) → (b ≡ true → x ≡ fwd_word) → (c ≡ true → x ≡ data_word) → (d ≡ true → x ≡ ctl_word)
          → (a || (b || (c || d))) ≡ true → kind_word (cond a Req (cond b Fwd (cond c Data Ctl))) ≡ x
      go true b c d p q r s h = sym (p refl)
      go false true c d p q r s h = sym (q refl)
      go false false true d p q r s h = sym (r refl)
      go false false false d p q r s h = sym (s h)

  pub controller-word : is_controller x ≡ true → controller_word (controller_of x) ≡ x
  controller-word e = go (is_same_text x cache_word) (is_same_text x dir_word) (same_true x cache_word) (same_true x dir_word) e
    where
      go : (a b : Bool) → (a ≡ true → x ≡ cache_word) → (b ≡ true → x ≡ dir_word) → (a || b) ≡ true → controller_word (cond a Cache Dir) ≡ x
      go true b p q h = sym (p refl)
      go false b p q h = sym (q h)

  stability-word : is_stability x ≡ true → stability_word (stability_of x) ≡ x
  stability-word e = go (is_same_text x stable_word) (is_same_text x transient_word) (same_true x stable_word) (same_true x transient_word) e
    where
      go : (a b : Bool) → (a ≡ true → x ≡ stable_word) → (b ≡ true → x ≡ transient_word) → (a || b) ≡ true → stability_word (cond a Stable Transient) ≡ x
      go true b p q h = sym (p refl)
      go false b p q h = sym (q h)

-- ---- messages, events and states

module _ (f : Line) where
  pub message-fields : section_of f ≡ message → shaped message f ≡ true → message_fields (message_of f) ≡ f
  unfolding message_fields message_of
  message-fields e h =
      let n = eqb-true (length f) 3 (and_left (eqb (length f) 3) (is_kind (field f 2)) h) in
      let w = first_word f message_word message (not_in message f) e in
      let k = kind-word (field f 2) (and_right (eqb (length f) 3) (is_kind (field f 2)) h) in
      let a = name-text (field f 1) in
      let f0 = drop-cons f 0 [] (omega arith) in
      let f1 = drop-cons f 1 [] (omega arith) in
      let f2 = drop-cons f 2 [] (omega arith) in
      let f3 = drop_of_length-le f {i = 3} (omega arith) in
      cc

  pub event-fields : section_of f ≡ event → shaped event f ≡ true → event_fields (event_of f) ≡ f
  unfolding event_fields event_of
  event-fields e h =
      let n = eqb-true (length f) 2 h in
      let w = first_word f event_word event (not_in event f) e in
      let a = name-text (field f 1) in
      let f0 = drop-cons f 0 [] (omega arith) in
      let f1 = drop-cons f 1 [] (omega arith) in
      let f2 = drop_of_length-le f {i = 2} (omega arith) in
      cc

  pub state-fields : section_of f ≡ state → shaped state f ≡ true → state_fields (state_of f) ≡ f
  unfolding state_fields state_of
  state-fields e h =
      let n = eqb-true (length f) 4 (and_left (eqb (length f) 4) (is_controller (field f 1) && is_stability (field f 3)) h) in
      let v = and_right (eqb (length f) 4) (is_controller (field f 1) && is_stability (field f 3)) h in
      let w = first_word f state_word state (not_in state f) e in
      let k = controller-word (field f 1) (and_left (is_controller (field f 1)) (is_stability (field f 3)) v) in
      let s = stability-word (field f 3) (and_right (is_controller (field f 1)) (is_stability (field f 3)) v) in
      let a = name-text (field f 2) in
      let f0 = drop-cons f 0 [] (omega arith) in
      let f1 = drop-cons f 1 [] (omega arith) in
      let f2 = drop-cons f 2 [] (omega arith) in
      let f3 = drop-cons f 3 [] (omega arith) in
      let f4 = drop_of_length-le f {i = 4} (omega arith) in
      cc
