-- Writing the shown cycle, number by number.
use Prim.Native.Nat.{ℕ, zero, suc, ◌+◌, ◌-◌, ◌<◌, ◌≤◌}
use mathlib.Core.Path.{◌≡◌, refl, sym, subst, ap, ◌∙◌}
use mathlib.Core.Logic.{◌≢◌, ◌↔◌}
use mathlib.Core.List.{List, [], ◌∷◌}
use native.Mathlib.Decide.{ℕ_discrete}
use native.Mathlib.Omega.{arith}
use native.Mathlib.Numerals.{add-one}
use lib.ListN.{length, get_or, set, take, drop, length-set}
use lib.Seq.{get_or-set_same, get_or-set_other, get_or-take, length-take-le, drop-set-lt}
use Rattle.rules.specs.Walks.{Rel, Exactly}
use Rattle.rules.specs.Plan.{Shown}
use Rattle.rules.proofs.Picked.{StepAt, picked-shown}
use Rattle.rows.specs.Rows.{Bit, Rows}
use Rattle.rows.specs.Row.{Meet, Lowest}
use Rattle.rows.proofs.Bits.{meet-none}
use Rattle.walks.specs.Walks.{Within}
use Rattle.walks.specs.Sets.{FoundAt, Drawn}
use Rattle.walks.proofs.cycles.Layering.{Layer, exactly-small}

module _ (w s : List ℕ) (n : ℕ) where
  abbrev pub W : Rel
  W = Rows n w

  abbrev pub S : Rel
  S = Rows n s

module _ (w s : List ℕ) (n len x : ℕ) where
  -- i numbers are written; the last of them is at `prev`, and `row` has what may follow it
  pub record PicksInv (old out : List ℕ) (row i : ℕ) : Type 0 where
    pub prev : ℕ
    pub is : i ≡ suc prev
    pub at_most : i ≤ len
    pub same_length : length out ≡ length old
    pub rest : drop len out ≡ drop len old
    pub head : get_or out 0 0 ≡ x
    pub steps : (j : ℕ) → j < prev → StepAt (W w s n) (S w s n) j (get_or out j 0) (get_or out (suc j) 0)
    pub least : (j : ℕ) → j < prev → (z : ℕ) → StepAt (W w s n) (S w s n) j (get_or out j 0) z → Exactly (S w s n) (len - suc j) z x → get_or out (suc j) 0 ≤ z
    pub row_is : (z : ℕ) → z < n → Bit row z ↔ StepAt (W w s n) (S w s n) prev (get_or out prev 0) z
    pub next : (z : ℕ) × StepAt (W w s n) (S w s n) prev (get_or out prev 0) z × Exactly (S w s n) (len - i) z x

module _ (w s : List ℕ) (n len x : ℕ) (hx : x < n) where
  pub picks_start : (out : List ℕ) → 1 ≤ len → 1 ≤ length out → FoundAt w s n len x → PicksInv w s n len x (set out 0 x) (set out 0 x) (get_or w x 0) 1
  picks_start out h k f =
      let e : get_or (set out 0 x) 0 0 ≡ x = get_or-set_same out 0 x 0 k in
      record {
        prev = 0;
        is = refl;
        at_most = h;
        same_length = refl;
        rest = refl;
        head = e;
        steps = λ j q. absurd (omega arith);
        least = λ j q. absurd (omega arith);
        row_is = λ z hz. rw e (λ b. record { i_below = hx; j_below = hz; bit = b }, λ r. r.bit);
        next = rw e f.opens;
      }

  -- some number follows
  pub picks-some : (old out : List ℕ) (row i l both : ℕ) → Layer s n x (len - i) l → Meet row l both → PicksInv w s n len x old out row i → both ≢ 0
  picks-some old out row i l both layer meet inv e =
      let t = inv.next in
      let small = exactly-small s n (len - i) t.0 x hx t.2 in
      meet-none row l both meet e t.0 ((inv.row_is t.0 small).1 t.1) ((layer t.0).1 t.2)

  -- the lowest of them is chosen
  module _ {wide : ℕ} (old out : List ℕ) (row i l both chosen : ℕ) (hl : len ≤ length old) (hi : i < len) (layer : Layer s n x (len - i) l) (meet : Meet row l both) (low : Lowest wide both chosen) (inv : PicksInv w s n len x old out row i) where
    pub chosen_is : (chosen < n) × StepAt (W w s n) (S w s n) inv.prev (get_or out inv.prev 0) chosen × Exactly (S w s n) (len - i) chosen x
    chosen_is =
        let u = (meet.bits chosen).0 low.bit in
        let e = (layer chosen).0 u.1 in
        let small = exactly-small s n (len - i) chosen x hx e in
        (small, (inv.row_is chosen small).0 u.0, e)

    chosen-least : (z : ℕ) → StepAt (W w s n) (S w s n) inv.prev (get_or out inv.prev 0) z → Exactly (S w s n) (len - i) z x → chosen ≤ z
    chosen-least z a e =
        let small = exactly-small s n (len - i) z x hx e in
        low.least z ((meet.bits z).1 ((inv.row_is z small).1 a, (layer z).1 e))

    stays : (j : ℕ) → j < i → get_or (set out i chosen) j 0 ≡ get_or out j 0
    stays j h = get_or-set_other out i j chosen 0 (λ e. absurd (omega (arith, e)))

    new : get_or (set out i chosen) i 0 ≡ chosen
    new = get_or-set_same out i chosen 0 (omega (arith, inv.same_length))

    new' : get_or (set out i chosen) (suc inv.prev) 0 ≡ chosen
    new' = ap (λ (k : ℕ). get_or (set out i chosen) k 0) (sym inv.is) ∙ new

    pub picks-step : PicksInv w s n len x old (set out i chosen) (get_or s chosen 0) (i + 1)
    picks-step = record {
      prev = i;
      is = add-one i;
      at_most = omega arith;
      same_length = length-set out i chosen ∙ inv.same_length;
      rest = drop-set-lt len out i chosen hi ∙ inv.rest;
      head = stays 0 (omega (arith, inv.is)) ∙ inv.head;
      steps = λ j h. stepped j (omega (arith, inv.is)) (ℕ_discrete j inv.prev);
      least = λ j h. leastly j (omega (arith, inv.is)) (ℕ_discrete j inv.prev);
      row_is = λ z hz. rw new (λ b. (later chosen z).1 (record { i_below = chosen_is.0; j_below = hz; bit = b }), λ t. ((later chosen z).0 t).bit);
      next = (more.0, rw new ((later chosen more.0).1 more.1), more.2);
    }
      where
        later : (a b : ℕ) → StepAt (W w s n) (S w s n) i a b ↔ S w s n a b
        later a b = subst (λ (k : ℕ). StepAt (W w s n) (S w s n) k a b ↔ S w s n a b) (sym inv.is) (λ t. t, λ t. t)

        left : len - i ≡ suc (len - (i + 1))
        left = omega arith

        more : Exactly (S w s n) (suc (len - (i + 1))) chosen x
        more = subst (λ (k : ℕ). Exactly (S w s n) k chosen x) left chosen_is.2

        stepped : (j : ℕ) → j ≤ inv.prev → Dec (j ≡ inv.prev) → StepAt (W w s n) (S w s n) j (get_or (set out i chosen) j 0) (get_or (set out i chosen) (suc j) 0)
        stepped j h (yes e) = rw (e, new', stays inv.prev (omega (arith, inv.is))) chosen_is.1
        stepped j h (no d) = rw (stays j (omega (arith, inv.is)), stays (suc j) (omega (arith, inv.is))) (inv.steps j (omega arith))

        leastly : (j : ℕ) → j ≤ inv.prev → Dec (j ≡ inv.prev) → (z : ℕ) → StepAt (W w s n) (S w s n) j (get_or (set out i chosen) j 0) z → Exactly (S w s n) (len - suc j) z x → get_or (set out i chosen) (suc j) 0 ≤ z
        leastly j h (yes e) z = rw (e, new', stays inv.prev (omega (arith, inv.is)), ← inv.is) (chosen-least z)
        leastly j h (no d) z = rw (stays j (omega (arith, inv.is)), stays (suc j) (omega (arith, inv.is))) (inv.least j (omega arith) z)

  -- all is written
  module _ (found : FoundAt w s n len x) (also : Within n w s) where
    picks-list : (old : List ℕ) (o : ℕ) (more : List ℕ) (row i : ℕ) → len ≤ length old → len ≤ i → PicksInv w s n len x old (o ∷ more) row i → Shown (W w s n) (S w s n) (take len (o ∷ more))
    picks-list old o more row i hl hi inv =
        subst (λ (k : ℕ). Shown (W w s n) (S w s n) (take k (o ∷ more))) (sym len_is)
        (subst (λ (a : ℕ). Shown (W w s n) (S w s n) (a ∷ l)) (sym inv.head)
        (picked-shown (W w s n) (S w s n) also x l
        (λ j h. rw (at-l j (omega (arith, l-long, len_is)), in-l j (omega (arith, l-long, len_is))) (inv.steps j (omega (arith, l-long, len_is))))
        (rw (l-long, at-l inv.prev (omega (arith, l-long, len_is))) last)
        (λ j h z a e. rw (in-l j (omega (arith, l-long, len_is))) (inv.least j (omega (arith, l-long, len_is)) z (rw (at-l j (omega (arith, l-long, len_is))) at a) (subst (λ (k : ℕ). Exactly (S w s n) k z x) (steps-left j (omega (arith, l-long, len_is))) e)))
        (λ m c. omega (arith, found.none_shorter m c, l-long, len_is))
        (λ m c e. found.none_before m c (omega (arith, l-long, len_is)))))
      where
        l : List ℕ
        l = take inv.prev more

        len_is : len ≡ suc inv.prev
        len_is = omega (arith, inv.is, inv.at_most)

        l-long : length l ≡ inv.prev
        l-long = length-take-le inv.prev more (omega (arith, inv.same_length))

        in-l : (j : ℕ) → j < inv.prev → get_or l j 0 ≡ get_or more j 0
        in-l j h = get_or-take inv.prev more j 0 h

        at-l : (j : ℕ) → j < suc inv.prev → get_or (x ∷ l) j 0 ≡ get_or (o ∷ more) j 0
        at-l zero h = sym inv.head
        at-l (suc j) h = in-l j (omega arith)

        steps-left : (j : ℕ) → j < inv.prev → length l - j ≡ len - suc j
        steps-left j h = omega (arith, l-long, len_is)

        last : StepAt (W w s n) (S w s n) inv.prev (get_or (o ∷ more) inv.prev 0) x
        last =
            let t = inv.next in
            let z : len - i ≡ 0 = omega arith in
            let e : t.0 ≡ x = subst (λ (k : ℕ). Exactly (S w s n) k t.0 x) z t.2 in
            subst (StepAt (W w s n) (S w s n) inv.prev (get_or (o ∷ more) inv.prev 0)) e t.1

    pub picks-end : (old out : List ℕ) (row i : ℕ) → 1 ≤ len → len ≤ length old → len ≤ i → PicksInv w s n len x (set old 0 x) out row i → Drawn w s n len old out
    picks-end old [] row i h hl hi inv = absurd (omega (arith, inv.same_length, length-set old 0 x))
    picks-end old (o ∷ more) row i h hl hi inv = record {
      shown = picks-list (set old 0 x) o more row i (omega (arith, length-set old 0 x)) hi inv;
      rest = inv.rest ∙ drop-set-lt len old 0 x h;
    }
