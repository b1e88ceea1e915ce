-- Warshall's closure, in place, row by row: what its loops keep, and what they count.
use Prim.Native.Nat.{ℕ, zero, suc, ◌+◌, ◌*◌, ◌<◌, ◌≤◌}
use mathlib.Core.Path.{◌≡◌, refl, sym, subst, ◌∙◌}
use mathlib.Core.Logic.{inl, inr, ⊎_elim, ◌↔◌}
use mathlib.Core.List.{List, [], ◌∷◌, ◌++◌}
use native.Mathlib.Numerals.{add-one}
use native.Mathlib.Omega.{arith}
use lib.ListN.{length, get_or, set}
use Rattle.rules.specs.Walks.{Rel, Chain, Plus}
use Rattle.rules.specs.Plan.{Counts, Pairs}
use Rattle.rules.proofs.Search.{Via, via-plus, via-trans}
use Rattle.rows.specs.Rows.{Bit}
use Rattle.rows.specs.Row.{Join}
use Rattle.rows.specs.Closure.{RowStep, KeptFrom, Closure, Joined, Counted, Round, Holders, HeldBits}
use Rattle.rows.proofs.Bits.{bit?}
use Rattle.rows.proofs.Counting.{counts-le, pairs-le, counts-below}
use Rattle.rows.proofs.FillingRows.{kept-all, FillingRows, fill_start, fill_step, fill-kept}

-- ---- one row

pub joined-yes : (row other k r : ℕ) → Bit row k → Join row other r → Joined row other k r
joined-yes row other k r b u = record {
  bits = λ j. (
    λ h. ⊎_elim inl (λ x. inr (b, x)) ((u.bits j).0 h),
    λ t. (u.bits j).1 (⊎_elim inl (λ x. inr x.1) t),
  );
}

pub joined-no : (row other k : ℕ) → ¬ Bit row k → Joined row other k row
joined-no row other k g = record { bits = λ j. (inl, ⊎_elim (λ x. x) (λ x. absurd (g x.0))) }

pub counted-yes : (row k c : ℕ) → Bit row k → Counted row k c (c + 1)
counted-yes row k c b = record { one_more = λ x. refl; as_it_was = λ g. absurd (g b) }

pub counted-no : (row k c : ℕ) → ¬ Bit row k → Counted row k c c
counted-no row k c g = record { one_more = λ b. absurd (g b); as_it_was = λ x. refl }

-- ---- a round

-- what row a becomes in the round of row k, which is `own`
abbrev pub Taken : List ℕ → ℕ → ℕ → ℕ → ℕ → Type 0
Taken given k own a r = Joined (get_or given a 0) own k r

-- row a holds message k
abbrev pub Holding : List ℕ → ℕ → ℕ → Type 0
Holding rows k a = Bit (get_or rows a 0) k

module _ (given : List ℕ) (n k own : ℕ) where
  -- The rows from i on are as they were: a row that is still to come holds k if it did so at the beginning of the round.
  pub record RoundInv (rows : List ℕ) (i c : ℕ) : Type 0 where
    pub is-own : own ≡ get_or given k 0
    pub filling : FillingRows (Taken given k own) n given rows i
    pub counted : Counts (Holding given k) i c

  pub round-start : own ≡ get_or given k 0 → RoundInv given 0 0
  round-start e = record { is-own = e; filling = fill_start (Taken given k own) n given; counted = refl }

  count-step : (i c d : ℕ) → Counted (get_or given i 0) k c d → Counts (Holding given k) i c → Counts (Holding given k) (suc i) d
  count-step i c d t s = go (bit? (get_or given i 0) k)
    where
      go : Dec (Holding given k i) → Counts (Holding given k) (suc i) d
      go (yes b) = inl (c, b, s, t.one_more b ∙ add-one c)
      go (no g) = inr (g, subst (Counts (Holding given k) i) (sym (t.as_it_was g)) s)

  pub round-step : (rows : List ℕ) (i r c d : ℕ) → n ≤ length given → i < n → Joined (get_or rows i 0) own k r → Counted (get_or rows i 0) k c d
      → RoundInv rows i c → RoundInv (set rows i r) (i + 1) d
  round-step rows i r c d hn hi j t inv =
      let e = inv.filling.todo i (omega arith) in
      record {
        is-own = inv.is-own;
        filling = fill_step (Taken given k own) n given rows i r hn hi (rw (← e) j) inv.filling;
        counted = rw (add-one i) (count-step i c d (rw (← e) t) inv.counted);
      }

  pub round-end : (rows : List ℕ) (i c : ℕ) → n ≤ i → RoundInv rows i c → Round given n k rows
  round-end rows i c h inv = record {
    each = λ a ha. rw (← inv.is-own) (inv.filling.done a (omega arith));
    kept = fill-kept (Taken given k own) n given rows i h inv.filling;
  }

  pub round-count : (rows : List ℕ) (i c : ℕ) → n ≤ i → RoundInv rows i c → Holders given n k c
  round-count rows i c h inv = record { counted = subst (λ (m : ℕ). Counts (Holding given k) m c) (let e : i ≡ n = omega (arith, inv.filling.at_most) in e) inv.counted }

-- ---- a round of a message that no row holds

module _ (rows : List ℕ) (n k held : ℕ) (all : HeldBits n rows held) (g : ¬ Bit held k) where
  none-holds : (i : ℕ) → i < n → ¬ Bit (get_or rows i 0) k
  none-holds i h x = g (all i k h x)

  pub round-none : Round rows n k rows
  round-none = record { each = λ i h. joined-no (get_or rows i 0) (get_or rows k 0) k (none-holds i h); kept = kept-all n rows }

  none-counted : (i : ℕ) → i ≤ n → Counts (Holding rows k) i 0
  none-counted zero h = refl
  none-counted (suc i) h = inr (none-holds i (omega arith), none-counted i (omega arith))

  pub holders-none : Holders rows n k 0
  holders-none = record { counted = none-counted n (omega arith) }

-- the rows of a round have no other bits than before
pub held_more : (rows next : List ℕ) (n k held : ℕ) → k < n → Round rows n k next → HeldBits n rows held → HeldBits n next held
held_more rows next n k held hk r all i j h x = ⊎_elim (λ y. all i j h y) (λ y. all k j hk y.1) (((r.each i h).bits j).0 x)

-- ---- one or more steps, of which each starts below n

module _ (R : Rel) (n : ℕ) (starts : (a b : ℕ) → R a b → a < n) where
  step-via : (k a b : ℕ) → R a b → Via R k a b
  step-via zero a b r = r
  step-via (suc k) a b r = inl (step-via k a b r)

  first_below : (a b : ℕ) (l : List ℕ) → Chain R a (l ++ b ∷ []) → a < n
  first_below a b [] c = starts a b c.0
  first_below a b (x ∷ l) c = starts a x c.0

  chain-via : (a b : ℕ) (l : List ℕ) → Chain R a (l ++ b ∷ []) → Via R n a b
  chain-via a b [] c = step-via n a b c.0
  chain-via a b (x ∷ l) c = via-trans R n a x b (first_below x b l c.1) (step-via n a x c.0) (chain-via x b l c.1)

  pub plus-via : (a b : ℕ) → Plus R a b → Via R n a b
  plus-via a b w = chain-via a b w.0 w.1

-- ---- the rounds

-- row i holds middle message k when its turn comes: k is reached from i by way of numbers below k
abbrev pub Passes : ℕ → List ℕ → Rel
Passes n given k i = Via (RowStep n given) k i k

module _ (given : List ℕ) (n : ℕ) where
  pub record CloseInv (rows : List ℕ) (k sum : ℕ) : Type 0 where
    pub at_most : k ≤ n
    pub each : (i j : ℕ) → i < n → Bit (get_or rows i 0) j ↔ Via (RowStep n given) k i j
    pub kept : KeptFrom n given rows
    pub counted : Pairs (Passes n given) n k sum

  pub close-start : CloseInv given 0 0
  close-start = record {
    at_most = omega arith;
    each = λ i j h. (λ b. (h, b), λ s. s.1);
    kept = record { rest = λ i h. refl; long = refl };
    counted = refl;
  }

  pub close-step : (rows : List ℕ) (k sum : ℕ) (next : List ℕ) (c : ℕ) → k < n → Round rows n k next → Holders rows n k c
      → CloseInv rows k sum → CloseInv next (k + 1) (sum + c)
  close-step rows k sum next c hk r h inv = record {
    at_most = omega arith;
    each = λ i j h. rw (add-one k) (
      λ b. ⊎_elim (λ x. inl ((inv.each i j h).0 x)) (λ x. inr ((inv.each i k h).0 x.0, (inv.each k j hk).0 x.1)) (((r.each i h).bits j).0 b),
      λ v. ((r.each i h).bits j).1 (⊎_elim (λ x. inl ((inv.each i j h).1 x)) (λ x. inr ((inv.each i k h).1 x.0, (inv.each k j hk).1 x.1)) v),
    );
    kept = record { rest = λ i h. r.kept.rest i h ∙ inv.kept.rest i h; long = r.kept.long ∙ inv.kept.long };
    counted = rw (add-one k) (c, sum, counts-below (Holding rows k) (Passes n given k) n c (λ i l. inv.each i k l) h.counted, inv.counted, omega arith);
  }

  pub close-end : (rows : List ℕ) (k sum : ℕ) → n ≤ k → CloseInv rows k sum → Closure n given rows
  close-end rows k sum h inv =
      let e : k ≡ n = omega (arith, inv.at_most) in
      record {
        reached = λ i j hi. (
          λ b. via-plus (RowStep n given) k i j ((inv.each i j hi).0 b),
          λ w. (inv.each i j hi).1 (subst (λ (m : ℕ). Via (RowStep n given) m i j) (sym e) (plus-via (RowStep n given) n (λ a b s. s.0) i j w)),
        );
        kept = inv.kept;
      }

  pub close-count : (rows : List ℕ) (k sum : ℕ) → n ≤ k → CloseInv rows k sum → Pairs (Passes n given) n n sum
  close-count rows k sum h inv = subst (λ (m : ℕ). Pairs (Passes n given) n m sum) (let e : k ≡ n = omega (arith, inv.at_most) in e) inv.counted

  -- n is at most w: each round has at most w joins
  pub close-small : (w : ℕ) (rows : List ℕ) (k sum : ℕ) → n ≤ w → CloseInv rows k sum → sum ≤ k * w
  close-small w rows k sum h inv = pairs-le (Passes n given) w n k sum h inv.counted

pub holders-few : (rows : List ℕ) (n k c : ℕ) → Holders rows n k c → c ≤ n
holders-few rows n k c h = counts-le (Holding rows k) n c h.counted
