-- Laws of what is written, and of decimal numbers.
use mathlib.Core.Path.{◌≡◌, refl, sym, ap, ap₂, ◌∙◌}
use mathlib.Core.Bool.{Bool, true, false, cond}
use mathlib.Core.List.{List, [], ◌∷◌, ◌++◌, append_assoc, append-nil}
use Prim.Native.Nat.{ℕ, zero, suc, ◌+◌, ◌-◌, ◌/◌, ◌%◌, ◌^◌, ◌≤◌, ◌<◌}
use native.Mathlib.Omega.{arith}
use native.Mathlib.Nat.{pow-suc, zero-add}
use native.Mathlib.Decide.{le_ind}
use lib.ListN.{length, take, drop, set, get_or, length-append, length-take, length-drop, drop_of_length-le}
use lib.Seq.{drop-cons, set_at, length-take-le, drop-drop, take_at, drop_at, take_all}
use lib.Dec.{ltb}
use borrow.Author.Tests.{lt-ltb, le-ltb, ltb-true, ltb-false}
use Rattle.text.specs.Written.{wrote, Wrote, Pasted, digits_in, decimal}

-- ---- at the front

pub length-wrote : (p old : List ℕ) → length p ≤ length old → length (wrote p old) ≡ length old
length-wrote p old h = simp (length-append, length-drop) (omega arith)

-- what was written counts bytes at the front
pub wrote-within : (text old new : List ℕ) (n : ℕ) → Wrote text old new n → n ≤ length new
wrote-within text old new n w = omega (arith, w.count, ap length w.bytes, length-append text (drop (length text) old))

pub wrote-counts : (text old new : List ℕ) (n : ℕ) → Wrote text old new n → n ≡ length (take n new)
wrote-counts text old new n w = sym (length-take-le n new (wrote-within text old new n w))

-- one byte more
pub wrote-snoc : (p old : List ℕ) (x n : ℕ) → n ≡ length p → n < length old → set (wrote p old) n x ≡ wrote (p ++ (x ∷ [])) old
wrote-snoc p old x n e h =
    let hp : length p < length old = omega arith in
    let en : length (p ++ (x ∷ [])) ≡ suc (length p) = simp length-append (omega arith) in
    ap (λ (l : List ℕ). set (p ++ l) n x) (drop-cons old (length p) 0 hp)
    ∙ set_at p (get_or old (length p) 0) (drop (suc (length p)) old) x n (sym e)
    ∙ sym (ap (λ (k : ℕ). (p ++ (x ∷ [])) ++ drop k old) en ∙ append_assoc p (x ∷ []) (drop (suc (length p)) old))

-- ---- decimal

more-fuel : (k n : ℕ) → n < k → digits_in (suc k) n ≡ digits_in k n
unfolding digits_in
more-fuel zero n h = absurd (omega arith)
more-fuel (suc k) n h = go (ltb n 10) refl (λ g. more-fuel k (n / 10) g)
  where
    go : (t : Bool) → ltb n 10 ≡ t → (n / 10 < k → digits_in (suc k) (n / 10) ≡ digits_in k (n / 10))
        → cond (ltb n 10) ((n + 48) ∷ []) (digits_in (suc k) (n / 10) ++ ((n % 10 + 48) ∷ []))
        ≡ cond (ltb n 10) ((n + 48) ∷ []) (digits_in k (n / 10) ++ ((n % 10 + 48) ∷ []))
    go true e f = rw e
    go false e f = rw (e, f (let g = ltb-false n 10 e in omega arith))

enough-fuel : (k n : ℕ) → suc n ≤ k → digits_in k n ≡ decimal n
unfolding decimal
enough-fuel k n h = le_ind (λ (m : ℕ). digits_in m n ≡ digits_in (suc n) n) refl (λ m g e. more-fuel m n g ∙ e) k h

pub decimal-small : (n : ℕ) → n < 10 → decimal n ≡ (n + 48) ∷ []
unfolding decimal digits_in
decimal-small n h = rw (lt-ltb n 10 h)

pub decimal_step : (n : ℕ) → 10 ≤ n → decimal n ≡ decimal (n / 10) ++ ((n % 10 + 48) ∷ [])
unfolding decimal digits_in
decimal_step n h = rw (le-ltb n 10 h) (ap (λ (l : List ℕ). l ++ ((n % 10 + 48) ∷ [])) (enough-fuel n (n / 10) (omega arith)))

pub length-step : (n : ℕ) → 10 ≤ n → length (decimal n) ≡ length (decimal (n / 10)) + 1
length-step n h = ap length (decimal_step n h) ∙ length-append (decimal (n / 10)) ((n % 10 + 48) ∷ [])

-- a number below a power of ten has no more digits than the power says
pub decimal-length : (k n : ℕ) → n < 10 ^ suc k → length (decimal n) ≤ suc k
decimal-length zero n h = omega (arith, ap length (decimal-small n (omega arith)))
decimal-length (suc k) n h = go (ltb n 10) refl (decimal-length k (n / 10))
  where
    go : (t : Bool) → ltb n 10 ≡ t → (n / 10 < 10 ^ suc k → length (decimal (n / 10)) ≤ suc k) → length (decimal n) ≤ suc (suc k)
    go true e f = omega (arith, ap length (decimal-small n (ltb-true n 10 e)))
    go false e f =
        let more = ltb-false n 10 e in
        let shift = pow-suc 10 (suc k) in
        let rest = f (omega arith) in
        omega (arith, length-step n more)

pub number_small : (n : ℕ) (old : List ℕ) → n < 10 → 0 < length old → set old 0 (n + 48) ≡ wrote (decimal n) old
number_small n old h k = wrote-snoc [] old (n + 48) 0 refl k ∙ ap (λ (l : List ℕ). wrote l old) (sym (decimal-small n h))

pub number_step : (n r : ℕ) (old : List ℕ) → 10 ≤ n → r ≡ length (decimal (n / 10)) → r < length old
    → set (wrote (decimal (n / 10)) old) r (n % 10 + 48) ≡ wrote (decimal n) old
number_step n r old h e k =
    wrote-snoc (decimal (n / 10)) old (n % 10 + 48) r e k ∙ ap (λ (l : List ℕ). wrote l old) (sym (decimal_step n h))

-- ---- at a place

-- the rest of the output from a place on has the room that the whole has there
pub part_room : (q old : List ℕ) (a : ℕ) → a + length q ≤ length old → length q ≤ length (take (length old - a) (drop a old))
part_room q old a h = simp (length-take, length-drop) (omega arith)

-- q was written to the rest that starts at a, which was lent as a part and comes back
pub pasted-part : (q old ys : List ℕ) (a b : ℕ) → a + length q ≤ length old → Wrote q (take (length old - a) (drop a old)) ys b
    → Pasted q a old (take a old ++ (ys ++ drop (length old - a) (drop a old))) (a + b)
pasted-part q old ys a b h v =
    let r = drop a old in
    let lr : length r ≡ length old - a = length-drop a old in
    let et : take (length old - a) r ≡ r = take_all (length old - a) r (omega arith) in
    let en : drop (length old - a) r ≡ [] = drop_of_length-le r {i = length old - a} (omega arith) in
    record {
      count = omega (arith, v.count);
      bytes =
          ap (λ (l : List ℕ). take a old ++ (l ++ drop (length old - a) r)) v.bytes
          ∙ rw (et, en) (ap (λ (l : List ℕ). take a old ++ l) (append-nil (q ++ drop (length q) r) ∙ ap (λ (l : List ℕ). q ++ l) (drop-drop (length q) a old)));
    }

-- what is written at the front is written at place 0
pub wrote-pasted : (q old new : List ℕ) (n : ℕ) → Wrote q old new n → Pasted q 0 old new n
wrote-pasted q old new n w = record { count = rw zero-add w.count; bytes = rw zero-add w.bytes }

pub pasted-wrote : (q old new : List ℕ) (n : ℕ) → Pasted q 0 old new n → Wrote q old new n
pasted-wrote q old new n v = record { count = rw zero-add at v.count; bytes = rw zero-add at v.bytes }

-- ---- one text after another

pub pasted_length : (p old new : List ℕ) (a b : ℕ) → a + length p ≤ length old → Pasted p a old new b → length new ≡ length old
pasted_length p old new a b h v =
    ap length v.bytes ∙ simp (length-append, length-take, length-drop) (omega arith)

pub wrote-length : (p old new : List ℕ) (n : ℕ) → length p ≤ length old → Wrote p old new n → length new ≡ length old
wrote-length p old new n h w = ap length w.bytes ∙ length-wrote p old h

-- q follows p, which was written from a on; b is where q starts
module _ (p q old new : List ℕ) (a b : ℕ) (room : a + length (p ++ q) ≤ length old) (v : Pasted p a old new b) where
  both : a + length p + length q ≤ length old
  both = omega (arith, length-append p q)

  -- there is room for q
  pub next-room : b + length q ≤ length new
  next-room = omega (arith, both, v.count, pasted_length p old new a b (omega (arith, both)) v)

  -- both are written, one after the other
  pub pasted-next : (new₂ : List ℕ) (c : ℕ) → Pasted q b new new₂ c → Pasted (p ++ q) a old new₂ c
  pasted-next new₂ c w =
      let front = take a old ++ p in
      let d = drop (a + length p) old in
      let lf : length front ≡ b =
      length-append (take a old) p ∙ ap (λ (n : ℕ). n + length p) (length-take-le a old (omega (arith, both))) ∙ sym v.count in
      let en : new ≡ front ++ d = v.bytes ∙ sym (append_assoc (take a old) p d) in
      let et : take b new ≡ front = ap (take b) en ∙ take_at front d b lf in
      let es : a + length p + length q ≡ a + length (p ++ q) = omega (arith, length-append p q) in
      let ed : drop (b + length q) new ≡ drop (a + length (p ++ q)) old =
      sym (drop-drop (length q) b new) ∙ ap (λ (l : List ℕ). drop (length q) (drop b l)) en ∙ ap (drop (length q)) (drop_at front d b lf)
      ∙ drop-drop (length q) (a + length p) old ∙ ap (λ (n : ℕ). drop n old) es in
      record {
        count = omega (arith, v.count, w.count, es);
        bytes =
            w.bytes ∙ ap₂ (λ (l m : List ℕ). l ++ (q ++ m)) et ed
            ∙ append_assoc (take a old) p (q ++ drop (a + length (p ++ q)) old)
            ∙ ap (λ (l : List ℕ). take a old ++ l) (sym (append_assoc p q (drop (a + length (p ++ q)) old)));
      }

-- the same after a text at the front
module _ (p q old new : List ℕ) (a : ℕ) (room : length (p ++ q) ≤ length old) (w : Wrote p old new a) where
  pub more_room : a + length q ≤ length new
  more_room = next-room p q old new 0 a (omega arith) (wrote-pasted p old new a w)

  pub then-more : (new₂ : List ℕ) (r : ℕ) → Pasted q a new new₂ r → Wrote (p ++ q) old new₂ r
  then-more new₂ r v = pasted-wrote (p ++ q) old new₂ r (pasted-next p q old new 0 a (omega arith) (wrote-pasted p old new a w) new₂ r v)
