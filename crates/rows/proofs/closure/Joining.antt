-- The definition's walk: it closes the rows, and its joins are counted as the loops count them.
use Prim.Native.Nat.{ℕ, zero, suc, ◌+◌, ◌*◌, ◌<◌, ◌≤◌}
use mathlib.Core.Path.{◌≡◌, refl, sym, subst, ap, ◌∙◌}
use mathlib.Core.Logic.{inl, inr, ⊎_elim, ◌↔◌}
use mathlib.Core.List.{List, [], ◌∷◌, ◌++◌}
use native.Mathlib.Numerals.{add-one}
use native.Mathlib.Decide.{dec_lt}
use native.Mathlib.Omega.{arith}
use lib.Bits.{bit_or}
use lib.ListN.{length, get_or}
use lib.Seq.{set-get_or}
use borrow.Author.Tests.{eq-eqb, ne_eqb}
use Rattle.rules.specs.Walks.{Rel}
use Rattle.rules.specs.Plan.{Pairs}
use Rattle.rules.specs.Lists.{up_to}
use Rattle.rules.proofs.Unique.{pairs-one}
use Rattle.rules.proofs.Same.{pairs-same}
use Rattle.rules.proofs.Search.{Via}
use Rattle.rows.specs.Rows.{Bit}
use Rattle.rows.specs.Row.{Join}
use Rattle.rows.specs.Closure.{RowStep, Closure, Round, Holders}
use Rattle.rows.specs.Joins.{Moment, joining, turn, turns, in_order_lem, middles, closing, joins, ClosingCloses, FewJoins}
use Rattle.rows.proofs.Bits.{bit?, bit-or}
use Rattle.rows.proofs.Counting.{pairs-le}
use Rattle.rows.proofs.closure.Warshall.{joined-yes, joined-no, counted-yes, counted-no, RoundInv, round-start, round-step, round-end, round-count, Passes, CloseInv, close-start, close-step, close-end, close-count}

-- ---- one turn

pub turn-yes : (k i : ℕ) (m : Moment) → Bit (get_or m.rows i 0) k → turn k i m ≡ joining k i m
turn-yes k i m b = rw (eq-eqb _ 1 b) refl

pub turn-no : (k i : ℕ) (m : Moment) → ¬ Bit (get_or m.rows i 0) k → turn k i m ≡ m
turn-no k i m g = rw (ne_eqb _ 1 g) refl

-- ---- one after the other

up_more : {A : Type 0} (n : ℕ) (f : ℕ → A) → up_to (suc n) f ≡ up_to n f ++ (f n ∷ [])
up_more zero f = refl
up_more (suc n) f = ap (λ l. f 0 ∷ l) (up_more n (λ k. f (suc k)))

turns_more : (k i : ℕ) (order : List ℕ) (m : Moment) → turns k (order ++ (i ∷ [])) m ≡ turn k i (turns k order m)
turns_more k i [] m = refl
turns_more k i (x ∷ order) m = turns_more k i order (turn k x m)

middles-more : (n k : ℕ) (order : List ℕ) (m : Moment) → middles n (order ++ (k ∷ [])) m ≡ turns k (in_order_lem n) (middles n order m)
middles-more n k [] m = refl
middles-more n k (x ∷ order) m = middles-more n k order (turns x (in_order_lem n) m)

-- ---- the turns with one middle message

module _ (n k : ℕ) (m : Moment) (long : n ≤ length m.rows) where
  abbrev own : ℕ
  own = get_or m.rows k 0

  -- before the turn of row i, and how many joins there were since the moment m
  abbrev InRound : Moment → ℕ → Type 0
  InRound x i = (c : ℕ) × RoundInv m.rows n k own x.rows i c × (x.joins ≡ m.joins + c)

  -- the row of the middle message holds the same messages all the time
  own-kept : (rows : List ℕ) (i c : ℕ) → RoundInv m.rows n k own rows i c → (j : ℕ) → Bit (get_or rows k 0) j ↔ Bit own j
  own-kept rows i c inv j = go (dec_lt k i)
    where
      go : Dec (k < i) → Bit (get_or rows k 0) j ↔ Bit own j
      go (yes h) = let t = (inv.filling.done k h).bits j in (λ b. ⊎_elim (λ x. x) (λ x. x.1) (t.0 b), λ b. t.1 (inl b))
      go (no g) = rw (inv.filling.todo k (omega arith)) (λ b. b, λ b. b)

  -- so to take in the row as it stands is to take in the row that it was
  own-joined : (rows : List ℕ) (i c row : ℕ) → RoundInv m.rows n k own rows i c → Join row own (bit_or row (get_or rows k 0))
  own-joined rows i c row inv = record {
    bits = λ j. (
      λ b. ⊎_elim inl (λ x. inr ((own-kept rows i c inv j).0 x)) ((bit-or row (get_or rows k 0) j).0 b),
      λ t. (bit-or row (get_or rows k 0) j).1 (⊎_elim inl (λ x. inr ((own-kept rows i c inv j).1 x)) t),
    );
  }

  turn_step : (x : Moment) (i : ℕ) → i < n → InRound x i → InRound (turn k i x) (i + 1)
  turn_step x i hi t = go (bit? row k)
    where
      row : ℕ
      row = get_or x.rows i 0

      go : Dec (Bit row k) → InRound (turn k i x) (i + 1)
      go (yes b) =
          subst (λ (y : Moment). InRound y (i + 1)) (sym (turn-yes k i x b))
          (t.0 + 1, round-step m.rows n k own x.rows i (bit_or row (get_or x.rows k 0)) t.0 (t.0 + 1) long hi (joined-yes row own k _ b (own-joined x.rows i t.0 row t.1)) (counted-yes row k t.0 b) t.1, omega (arith, t.2))
      go (no g) =
          subst (λ (y : Moment). InRound y (i + 1)) (sym (turn-no k i x g)) (
            t.0,
            subst (λ (rows : List ℕ). RoundInv m.rows n k own rows (i + 1) t.0) (set-get_or x.rows i 0)
                (round-step m.rows n k own x.rows i row t.0 t.0 long hi (joined-no row own k g) (counted-no row k t.0 g) t.1),
            t.2,
          )

  in-round : (i : ℕ) → i ≤ n → InRound (turns k (in_order_lem i) m) i
  in-round zero h = (0, round-start m.rows n k own refl, omega arith)
  in-round (suc i) h =
      subst (λ (y : Moment). InRound y (suc i)) (sym (ap (λ (l : List ℕ). turns k l m) (up_more i (λ j. j)) ∙ turns_more k i (in_order_lem i) m))
      (rw (← (add-one i)) (turn_step (turns k (in_order_lem i) m) i (omega arith) (in-round i (omega arith))))

  pub turns-round : Round m.rows n k (turns k (in_order_lem n) m).rows
  turns-round = let t = in-round n (omega arith) in round-end m.rows n k own (turns k (in_order_lem n) m).rows n t.0 (omega arith) t.1

  -- as many joins as rows hold the middle message at the beginning of its round
  pub turns-count : (c : ℕ) × Holders m.rows n k c × ((turns k (in_order_lem n) m).joins ≡ m.joins + c)
  turns-count = let t = in-round n (omega arith) in (t.0, round-count m.rows n k own (turns k (in_order_lem n) m).rows n t.0 (omega arith) t.1, t.2)

-- ---- the middle messages in order

module _ (n : ℕ) (given : List ℕ) (long : n ≤ length given) where
  abbrev at-middle : ℕ → Moment
  at-middle k = middles n (in_order_lem k) (record { rows = given; joins = 0 })

  in-walk : (k : ℕ) → k ≤ n → CloseInv given n (at-middle k).rows k (at-middle k).joins
  in-walk zero h = close-start given n
  in-walk (suc k) h = go (in-walk k (omega arith))
    where
      x : Moment
      x = at-middle k

      go : CloseInv given n x.rows k x.joins → CloseInv given n (at-middle (suc k)).rows (suc k) (at-middle (suc k)).joins
      go inv =
          let room : n ≤ length x.rows = omega (arith, inv.kept.long) in
          let t = turns-count n k x room in
          subst (λ (y : Moment). CloseInv given n y.rows (suc k) y.joins) (sym (ap (λ (l : List ℕ). middles n l (record { rows = given; joins = 0 })) (up_more k (λ j. j)) ∙ middles-more n k (in_order_lem k) (record { rows = given; joins = 0 })))
          (rw (← (add-one k), t.2) (close-step given n x.rows k x.joins (turns k (in_order_lem n) x).rows t.0 (omega arith) (turns-round n k x room) t.1 inv))

  joins-counted : Pairs (Passes n given) n n (joins n given)
  unfolding closing
  joins-counted = close-count given n (at-middle n).rows n (at-middle n).joins (omega arith) (in-walk n (omega arith))

  closes : Closure n given (closing n given).rows
  unfolding closing
  closes = close-end given n (at-middle n).rows n (at-middle n).joins (omega arith) (in-walk n (omega arith))

  -- the count of the loops is the definition's
  pub joins-told : (rows : List ℕ) (k sum : ℕ) → n ≤ k → CloseInv given n rows k sum → sum ≡ joins n given
  joins-told rows k sum h inv = pairs-one (Passes n given) n n sum (joins n given) (close-count given n rows k sum h inv) joins-counted

pub closing-closes : ClosingCloses
closing-closes = closes

-- n is at most w: each middle message has at most w joins
pub joins-le : (w n : ℕ) (given : List ℕ) → n ≤ w → n ≤ length given → joins n given ≤ n * w
joins-le w n given h long = pairs-le (Passes n given) w n n (joins n given) h (joins-counted n given long)

pub few-joins : FewJoins
few-joins n given long = joins-le n n given (omega arith) long

-- ---- tables with the same first n rows

via-map : (R S : Rel) → ((a b : ℕ) → R a b → S a b) → (k a b : ℕ) → Via R k a b → Via S k a b
via-map R S f zero a b r = f a b r
via-map R S f (suc k) a b (inl v) = inl (via-map R S f k a b v)
via-map R S f (suc k) a b (inr v) = inr (via-map R S f k a k v.0, via-map R S f k k b v.1)

module _ (n : ℕ) (rows rows' : List ℕ) (same : (i : ℕ) → i < n → get_or rows i 0 ≡ get_or rows' i 0) where
  there : (a b : ℕ) → RowStep n rows a b → RowStep n rows' a b
  there a b s = (s.0, subst (λ (r : ℕ). Bit r b) (same a s.0) s.1)

  back : (a b : ℕ) → RowStep n rows' a b → RowStep n rows a b
  back a b s = (s.0, subst (λ (r : ℕ). Bit r b) (sym (same a s.0)) s.1)

  pub joins-same : n ≤ length rows → n ≤ length rows' → joins n rows ≡ joins n rows'
  joins-same long long' =
      pairs-one (Passes n rows') n n (joins n rows) (joins n rows')
      (pairs-same (Passes n rows) (Passes n rows') (λ k i. (via-map (RowStep n rows) (RowStep n rows') there k i k, via-map (RowStep n rows') (RowStep n rows) back k i k)) n n (joins n rows) (joins-counted n rows long))
      (joins-counted n rows' long')
