-- The messages that a cell's line sends: the loop over its fields.
use Prim.Native.Nat.{ℕ, zero, suc, ◌+◌, ◌-◌, ◌≤◌, ◌<◌}
use mathlib.Core.Path.{◌≡◌, refl, sym, ap, ◌∙◌}
use mathlib.Core.Bool.{true, false, and-false}
use mathlib.Core.List.{List, [], ◌∷◌, ◌++◌, map, map-append, append_assoc}
use native.Mathlib.Numerals.{add-one}
use native.Mathlib.Nat.{add-zero}
use native.Mathlib.Omega.{arith}
use lib.ListN.{length, get_or, take, set, replicate, length-take, length-map, length-drop}
use lib.Seq.{take-suc, take_all, set_at}
use Rattle.std.specs.Prelude.{Ok, Err}
use Rattle.rules.specs.declared.Message.{Message}
use Rattle.tables.specs.declared.Tables.{Tables}
use Rattle.tables.specs.names.Names.{is_message}
use Rattle.lines.specs.Line.{sent_fields, message_no}
use Rattle.text.specs.Parts.{split}
use Rattle.papers.specs.declared.records.Record.{Record}
use Rattle.papers.proofs.Recorded.{counted}
use Rattle.lines.specs.Checks.{all_messages, sent_names}
use Rattle.papers.specs.Fields.{first_bad_field}
use Rattle.lines.proofs.Both.{and_left, and_right}
use Rattle.cells.specs.targets.Target.{SentTold}

abbrev pub no_messages : List Message
no_messages = replicate 8 (record { 0 = 0 })

-- how many there are
pub sent_many : (r : Record) → 6 ≤ r.fields.count → r.fields.count ≤ 14 → 6 + length (sent_fields (split 9 r.bytes.now)) ≡ r.fields.count
sent_many r h k = omega (arith, length-drop 6 (split 9 r.bytes.now), counted r)

module _ (t : Tables) where
  -- ---- all of them are messages

  all_snoc : (xs : List (List ℕ)) (x : List ℕ) → is_message t x ≡ true → all_messages t xs ≡ true → all_messages t (xs ++ (x ∷ [])) ≡ true
  unfolding all_messages
  all_snoc [] x e h = rw e
  all_snoc (y ∷ xs) x e h =
      rw (and_left (is_message t y) (all_messages t xs) h) (all_snoc xs x e (and_right (is_message t y) (all_messages t xs) h))

  one-not : (xs : List (List ℕ)) (j : ℕ) → j < length xs → is_message t (get_or xs j []) ≡ false → all_messages t xs ≡ false
  unfolding all_messages
  one-not [] j h e = absurd (omega arith)
  one-not (x ∷ xs) zero h e = rw e
  one-not (x ∷ xs) (suc j) h e = rw (one-not xs j (omega arith) e) (and-false (is_message t x))

  -- the first message sent that is not known
  first-sent : (k : ℕ) (xs : List (List ℕ)) (j : ℕ) → j < length xs → all_messages t (take j xs) ≡ true → is_message t (get_or xs j []) ≡ false
      → first_bad_field (sent_names t k xs) ≡ k + j
  unfolding sent_names all_messages first_bad_field
  first-sent k [] j h a e = absurd (omega arith)
  first-sent k (x ∷ xs) zero h a e = rw e (sym (add-zero k))
  first-sent k (x ∷ xs) (suc j) h a e =
      rw (and_left (is_message t x) (all_messages t (take j xs)) a)
      (first-sent (suc k) xs j (omega arith) (and_right (is_message t x) (all_messages t (take j xs)) a) e
      ∙ (let q : suc k + j ≡ k + suc j = omega arith in q))

  -- ---- the loop

  -- The first j messages are known and written, zeros behind them.
  pub record Sending (xs : List (List ℕ)) (j : ℕ) (list : List Message) : Type 0 where
    pub known : all_messages t (take j xs) ≡ true
    pub sent : list ≡ map (message_no t) (take j xs) ++ replicate (8 - j) (record { 0 = 0 })

  pub sending-none : (xs : List (List ℕ)) → Sending xs 0 no_messages
  unfolding all_messages
  sending-none [] = record { known = refl; sent = refl }
  sending-none (x ∷ xs) = record { known = refl; sent = refl }

  module _ (xs : List (List ℕ)) (j : ℕ) (list : List Message) (s : Sending xs j list) where
    pub sending-more : j < length xs → length xs ≤ 8 → (m : Message) → (is_message t (get_or xs j []) ≡ true) × (m ≡ message_no t (get_or xs j []))
        → Sending xs (j + 1) (set list j m)
    sending-more h few m k = record { known = rw next (all_snoc (take j xs) (get_or xs j []) k.0 s.known); sent = write }
      where
        next : take (j + 1) xs ≡ take j xs ++ (get_or xs j [] ∷ [])
        next = ap (λ (n : ℕ). take n xs) (add-one j) ∙ take-suc xs j [] h

        write : set list j m ≡ map (message_no t) (take (j + 1) xs) ++ replicate (8 - (j + 1)) (record { 0 = 0 })
        write =
            let g = message_no t in
            let z : Message = record { 0 = 0 } in
            let ys = map g (take j xs) in
            let left = replicate (8 - (j + 1)) z in
            let n : 8 - j ≡ suc (8 - (j + 1)) = omega arith in
            let long : length ys ≡ j = length-map (take j xs) g ∙ (let q : length (take j xs) ≡ j = omega (arith, length-take j xs) in q) in
            ap (λ (l : List Message). set l j m) (s.sent ∙ ap (λ (i : ℕ). ys ++ replicate i z) n)
            ∙ set_at ys z left m j long
            ∙ ap (λ (v : Message). ys ++ (v ∷ left)) k.1
            ∙ sym (append_assoc ys (g (get_or xs j []) ∷ []) left)
            ∙ ap (λ (l : List Message). l ++ left) (sym (map-append g (take j xs) (get_or xs j [] ∷ [])) ∙ ap (map g) (sym next))

    pub sending-stops : j < length xs → is_message t (get_or xs j []) ≡ false → SentTold xs t (Err (record { 0 = 7 + j }))
    sending-stops h u = rw (one-not xs j h u, first-sent 7 xs j h s.known u)

    pub sending-all : (n : ℕ) → j ≡ length xs → n ≡ length xs → SentTold xs t (Ok (record { sent = list; count = n }))
    sending-all n h e =
        let all : take j xs ≡ xs = take_all j xs (omega arith) in
        rw (rw all at s.known, s.sent, all, h, e)
