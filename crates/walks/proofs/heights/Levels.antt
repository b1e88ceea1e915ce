-- Heights: what the loops keep, and that the table of sets gives the heights.
use Prim.Native.Nat.{ℕ, zero, suc, ◌+◌, ◌-◌, ◌<◌, ◌≤◌}
use mathlib.Core.Path.{◌≡◌, refl, sym, subst, ap, ◌∙◌}
use mathlib.Core.Logic.{◌⊎◌, inl, inr, ⊎_elim, ◌≢◌, ◌↔◌}
use mathlib.Core.List.{List, [], ◌∷◌, ◌++◌}
use native.Mathlib.Decide.{ℕ_discrete, dec_lt, dec_le}
use native.Mathlib.Omega.{arith}
use native.Mathlib.Nat.{zero-add, suc-add}
use native.Mathlib.Numerals.{add-one}
use lib.ListN.{length, get_or, set, drop, length-set}
use lib.Seq.{get_or-set_same, get_or-set_other, drop-set-lt}
use Rattle.std.specs.Prelude.{Some, None}
use Rattle.rules.specs.Lists.{Distinct}
use Rattle.rules.specs.Walks.{Rel, Chain, Plus}
use Rattle.rules.specs.Plan.{Height}
use Rattle.rules.proofs.Pigeon.{at_most}
use Rattle.rules.proofs.Cycle.{distinct-or, Repeat, chain_left, chain-right}
use Rattle.rules.proofs.Heights.{chain-in}
use Rattle.rows.specs.Rows.{Bit, Rows}
use Rattle.rows.specs.Row.{With, Without, Meet, AllBelow}
use Rattle.rows.specs.Closure.{KeptFrom}
use Rattle.rows.proofs.Bits.{bit-zero, some-bit, meet-some, meet-none}
use Rattle.rows.proofs.FillingRows.{kept-all, kept_store}
use Rattle.walks.specs.Walks.{Heights}
use Rattle.walks.proofs.Sets.{Meets}
use Rattle.walks.specs.Sets.{Below, Staying, StepsFrom, Levels, Rounds, LastSet, Written}

-- ---- chains of k steps

module _ (R : Rel) (n : ℕ) (within : (a b : ℕ) → R a b → (a < n) × (b < n)) where
  steps-chain : (k m : ℕ) → StepsFrom R n k m → (l : List ℕ) × Chain R m l × (length l ≡ k)
  steps-chain zero m s = ([], tt, refl)
  steps-chain (suc k) m s = let t = steps-chain k s.0 s.2 in (s.0 ∷ t.0, (s.1, t.1), ap suc t.2)

  chain_steps : (m : ℕ) (l : List ℕ) → m < n → Chain R m l → StepsFrom R n (length l) m
  chain_steps m [] h c = h
  chain_steps m (b ∷ l) h c = (b, c.0, chain_steps b l (within m b c.0).1 c.1)

  steps-small : (k m : ℕ) → StepsFrom R n k m → m < n
  steps-small zero m s = s
  steps-small (suc k) m s = (within m s.0 s.1).0

  steps-pred : (k m : ℕ) → StepsFrom R n (suc k) m → StepsFrom R n k m
  steps-pred zero m s = (within m s.0 s.1).0
  steps-pred (suc k) m s = (s.0, s.1, steps-pred k s.0 s.2)

  steps-less : (i k m : ℕ) → i ≤ k → StepsFrom R n k m → StepsFrom R n i m
  steps-less i zero m h s = subst (λ (j : ℕ). StepsFrom R n j m) (zero_is i h) s
    where
      zero_is : (i : ℕ) → i ≤ 0 → 0 ≡ i
      zero_is i h = omega arith
  steps-less i (suc k) m h s = go (λ q. steps-less i k m q (steps-pred k m s)) (ℕ_discrete i (suc k))
    where
      go : (i ≤ k → StepsFrom R n i m) → Dec (i ≡ suc k) → StepsFrom R n i m
      go f (yes e) = rw e s
      go f (no d) = f (omega arith)

  -- where a round loses nobody, none of the later ones does
  steps-stay : (k : ℕ) → ((m : ℕ) → StepsFrom R n k m → StepsFrom R n (suc k) m) → (j m : ℕ) → StepsFrom R n k m → StepsFrom R n (j + k) m
  steps-stay k f zero m s = subst (λ (i : ℕ). StepsFrom R n i m) (sym (zero-add k)) s
  steps-stay k f (suc j) m s = let t = f m s in subst (λ (i : ℕ). StepsFrom R n i m) (sym (suc-add j k)) (t.0, t.1, steps-stay k f j t.0 t.2)

  abbrev ChainL : List ℕ → Type 0
  ChainL [] = Unit {0}
  ChainL (m ∷ l) = Chain R m l

  goes-round : (u : List ℕ) (x : ℕ) (v w : List ℕ) → ChainL (u ++ x ∷ (v ++ x ∷ w)) → Plus R x x
  goes-round [] x v w c = (v, chain_left R x x v w c)
  goes-round (a ∷ u) x v w c = (v, chain_left R x x v w (chain-right R a x u (v ++ x ∷ w) c))

  -- a chain with as many steps as there are numbers goes round
  long-cycle : (m : ℕ) → StepsFrom R n n m → (a : ℕ) × Plus R a a
  long-cycle m s = go (distinct-or (m ∷ t.0))
    where
      t : (l : List ℕ) × Chain R m l × (length l ≡ n)
      t = steps-chain n m s

      go : Distinct (m ∷ t.0) ⊎ Repeat (m ∷ t.0) → (a : ℕ) × Plus R a a
      go (inl d) = absurd (omega (arith, at_most n (m ∷ t.0) d (chain-in R n within m t.0 (steps-small n m s) t.1), t.2))
      go (inr r) = (r.x, goes-round r.u r.x r.v r.w (subst ChainL r.is t.1))

-- ---- the loop of `staying`

-- the numbers that are not left are decided
pub record StayingInv (w : List ℕ) (set r left : ℕ) : Type 0 where
  pub among : (z : ℕ) → Bit left z → Bit set z
  pub bits : (y : ℕ) → Bit r y ↔ (Bit set y × (¬ Bit left y) × Meets (get_or w y 0) set)

pub staying-start : (w : List ℕ) (set : ℕ) → StayingInv w set 0 set
staying-start w set = record { among = λ z b. b; bits = λ y. (λ b. absurd (bit-zero y b), λ t. absurd (t.1 t.0)) }

module _ (w : List ℕ) (set r left first next m : ℕ) (low : Bit left first) (cleared : Without left first next) (both : Meet (get_or w first 0) set m) (inv : StayingInv w set r left) where
  fewer : (y : ℕ) → ¬ Bit left y → ¬ Bit next y
  fewer y g b = g ((cleared.bits y).0 b).0

  gone : ¬ Bit next first
  gone b = ((cleared.bits first).0 b).1 refl

  -- a step leads from it into the set
  pub staying-yes : (v : ℕ) → m ≢ 0 → With r first v → StayingInv w set v next
  staying-yes v g more = record {
    among = λ z b. inv.among z ((cleared.bits z).0 b).0;
    bits = λ y. (
      λ b. ⊎_elim (λ x. let t = (inv.bits y).0 x in (t.0, fewer y t.1, t.2)) (λ e. rw e (inv.among first low, gone, meet-some (get_or w first 0) set m both g)) ((more.bits y).0 b),
      λ t. (more.bits y).1 (pick y t (ℕ_discrete y first)),
    );
  }
    where
      pick : (y : ℕ) → Bit set y × (¬ Bit next y) × Meets (get_or w y 0) set → Dec (y ≡ first) → Bit r y ⊎ (y ≡ first)
      pick y t (yes e) = inr e
      pick y t (no d) = inl ((inv.bits y).1 (t.0, λ b. t.1 ((cleared.bits y).1 (b, d)), t.2))

  -- none does
  pub staying-no : m ≡ 0 → StayingInv w set r next
  staying-no z = record {
    among = λ y b. inv.among y ((cleared.bits y).0 b).0;
    bits = λ y. (λ b. let t = (inv.bits y).0 b in (t.0, fewer y t.1, t.2), λ t. pick y t (ℕ_discrete y first));
  }
    where
      pick : (y : ℕ) → Bit set y × (¬ Bit next y) × Meets (get_or w y 0) set → Dec (y ≡ first) → Bit r y
      pick y t (yes e) = absurd (meet-none (get_or w first 0) set m both z t.2.0 (subst (λ (k : ℕ). Bit (get_or w k 0) t.2.0) e t.2.1) t.2.2)
      pick y t (no d) = (inv.bits y).1 (t.0, λ b. t.1 ((cleared.bits y).1 (b, d)), t.2)

pub staying-end : (w : List ℕ) (set r left : ℕ) → left ≡ 0 → StayingInv w set r left → Staying w set r
staying-end w set r left e inv = record {
  bits = λ y. (
    λ b. let t = (inv.bits y).0 b in (t.0, t.2),
    λ t. (inv.bits y).1 (t.0, λ b. bit-zero y (subst (λ (k : ℕ). Bit k y) e b), t.1),
  );
}

-- ---- the loop of `rounds`

pub rows-within : (n : ℕ) (w : List ℕ) (a b : ℕ) → Rows n w a b → (a < n) × (b < n)
rows-within n w a b r = (r.i_below, r.j_below)

module _ (w : List ℕ) (n : ℕ) where
  abbrev Can : ℕ → ℕ → Type 0
  Can k m = StepsFrom (Rows n w) n k m

  abbrev Are : ℕ → ℕ → Type 0
  Are row k = (m : ℕ) → Bit row m ↔ Can k m

  pub record RoundsInv (old sets : List ℕ) (now k : ℕ) : Type 0 where
    pub at_most : k ≤ n
    pub now-is : Are now k
    pub sets_are : (j : ℕ) → j < k → Are (get_or sets j 0) j
    pub some : (m : ℕ) × Can k m
    pub kept : KeptFrom n old sets

  pub rounds-start : (sets : List ℕ) (v : ℕ) → 1 ≤ n → AllBelow n v → RoundsInv sets sets v 0
  rounds-start sets v h f = record {
    at_most = omega arith;
    now-is = f.bits;
    sets_are = λ j q. absurd (omega arith);
    some = (0, omega arith);
    kept = kept-all n sets;
  }

  next-are : (now next k : ℕ) → Are now k → Staying w now next → Are next (suc k)
  next-are now next k f i m = (
    λ b. let t = (i.bits m).0 b in let s = (f t.1.0).0 t.1.2 in
        (t.1.0, record { i_below = steps-small (Rows n w) n (rows-within n w) k m ((f m).0 t.0); j_below = steps-small (Rows n w) n (rows-within n w) k t.1.0 s; bit = t.1.1 }, s),
    λ s. (i.bits m).1 ((f m).1 (steps-pred (Rows n w) n (rows-within n w) k m s), (s.0, s.1.bit, (f s.0).1 s.2)),
  )

  -- they are below n
  pub are-below : (now k : ℕ) → Are now k → Below n now
  are-below now k f m b = steps-small (Rows n w) n (rows-within n w) k m ((f m).0 b)

  pub all-cycle : (m : ℕ) → Can n m → (a : ℕ) × Plus (Rows n w) a a
  all-cycle m s = long-cycle (Rows n w) n (rows-within n w) m s

  module _ (old sets : List ℕ) (now k next : ℕ) (room : n ≤ length old) (hk : k < n) (inv : RoundsInv old sets now k) (i : Staying w now next) where
    -- the set of round k is stored
    abbrev sets' : List ℕ
    sets' = set sets k now

    stored : (j : ℕ) → j < k + 1 → Are (get_or sets' j 0) j
    stored j q = go (ℕ_discrete j k)
      where
        go : Dec (j ≡ k) → Are (get_or sets' j 0) j
        go (yes e) = rw (e, get_or-set_same sets k now 0 (omega (arith, inv.kept.long))) inv.now-is
        go (no d) = rw (get_or-set_other sets k j now 0 d) (inv.sets_are j (omega arith))

    pub rounds-kept : KeptFrom n old (set sets k now)
    rounds-kept = kept_store n old sets k now hk inv.kept

    -- the round lost nobody
    pub rounds-stuck : next ≡ now → Rounds w n (set sets k now) None
    rounds-stuck e =
        let stay : (m : ℕ) → Can k m → Can (suc k) m = λ m s. (next-are now next k inv.now-is i m).0 (rw e ((inv.now-is m).1 s)) in
        let f : n - k + k ≡ n = omega arith in
        let t = inv.some in
        (all-cycle t.0 (subst (λ (j : ℕ). Can j t.0) f (steps-stay (Rows n w) n (rows-within n w) k stay (n - k) t.0 t.1)))

    -- nobody is left
    pub rounds-end : next ≡ 0 → Rounds w n (set sets k now) (Some (k + 1))
    rounds-end e = record {
      fits = omega arith;
      sets_are = stored;
      none = λ m s. bit-zero m (subst (λ (row : ℕ). Bit row m) e ((next-are now next k inv.now-is i m).1 (rw (add-one k) at s)));
      some = λ j q. rw (same j q) inv.some;
    }
      where
        same : (j : ℕ) → k + 1 ≡ suc j → j ≡ k
        same j q = omega (arith, q)

    pub rounds-step : ¬ (next ≡ 0) → RoundsInv old (set sets k now) next (k + 1)
    rounds-step d = let b = some-bit next d in record {
      at_most = omega arith;
      now-is = rw (add-one k) (next-are now next k inv.now-is i);
      sets_are = stored;
      some = (b.0, rw (add-one k) ((next-are now next k inv.now-is i b.0).0 b.1));
      kept = rounds-kept;
    }

  -- somebody is left at round n
  pub rounds-full : (old sets : List ℕ) (now k : ℕ) → n ≤ k → RoundsInv old sets now k → Rounds w n sets None
  rounds-full old sets now k h inv =
      let e : k ≡ n = omega (arith, inv.at_most) in
      let t = inv.some in
      (all-cycle t.0 (subst (λ (j : ℕ). Can j t.0) e t.1))

-- ---- the loop of `last`

pub record LastInv (sets : List ℕ) (count m h : ℕ) : Type 0 where
  pub small : h < count
  pub in_it : (j : ℕ) → j ≤ h → Bit (get_or sets j 0) m

-- ---- the loop of `write`

pub record WriteInv (sets : List ℕ) (count n : ℕ) (old new : List ℕ) (m : ℕ) : Type 0 where
  pub at_most : m ≤ n
  pub same_length : length new ≡ length old
  pub done : (j : ℕ) → j < m → LastSet sets count j (get_or new j 0)
  pub rest : drop n new ≡ drop n old

pub write-start : (sets : List ℕ) (count n : ℕ) (old : List ℕ) → WriteInv sets count n old old 0
write-start sets count n old = record { at_most = omega arith; same_length = refl; done = λ j h. absurd (omega arith); rest = refl }

pub write_step : (sets : List ℕ) (count n : ℕ) (old new : List ℕ) (m h : ℕ) → n ≤ length old → m < n → LastSet sets count m h → WriteInv sets count n old new m → WriteInv sets count n old (set new m h) (m + 1)
write_step sets count n old new m h hn hm l inv = record {
  at_most = omega arith;
  same_length = length-set new m h ∙ inv.same_length;
  done = λ j q. go j q (ℕ_discrete j m);
  rest = drop-set-lt n new m h hm ∙ inv.rest;
}
  where
    go : (j : ℕ) → j < m + 1 → Dec (j ≡ m) → LastSet sets count j (get_or (set new m h) j 0)
    go j q (yes e) = rw (e, get_or-set_same new m h 0 (omega (arith, inv.same_length))) l
    go j q (no d) = rw (get_or-set_other new m j h 0 d) (inv.done j (omega arith))

pub write-end : (sets : List ℕ) (count n : ℕ) (old new : List ℕ) (m : ℕ) → n ≤ m → WriteInv sets count n old new m → Written sets count n old new
write-end sets count n old new m h inv = record { last = λ j q. inv.done j (omega arith); rest = inv.rest }

-- ---- the heights

module _ (w : List ℕ) (n : ℕ) (sets : List ℕ) (r : ℕ) (levels : Levels w n sets r) where
  pub in-first : 1 ≤ r → (m : ℕ) → m < n → Bit (get_or sets 0 0) m
  in-first h m k = (levels.sets_are 0 (omega arith) m).1 k

  module _ (m h : ℕ) (hm : m < n) (l : LastSet sets r m h) where
    last-below : h < r
    last-below = l.small

    last-most : (k : ℕ) → StepsFrom (Rows n w) n k m → k ≤ h
    last-most k s = go (dec_le k h)
      where
        go : Dec (k ≤ h) → k ≤ h
        go (yes q) = q
        go (no q) = later (steps-less (Rows n w) n (rows-within n w) (h + 1) k m (omega arith) s) (dec_lt (h + 1) r)
          where
            later : StepsFrom (Rows n w) n (h + 1) m → Dec (h + 1 < r) → k ≤ h
            later c (yes o) = absurd (l.not_next o ((levels.sets_are (h + 1) o m).1 c))
            later c (no o) = absurd (levels.none m (subst (λ (i : ℕ). StepsFrom (Rows n w) n i m) (let e : h + 1 ≡ r = omega (arith, last-below) in e) c))

    last-height : Height (Rows n w) m h
    last-height =
        let c = steps-chain (Rows n w) n (rows-within n w) h m ((levels.sets_are h (omega (arith, last-below)) m).0 (l.in_it h (omega arith))) in
        record { rest = c.0; chain = c.1; steps = c.2; longest = λ k q. last-most (length k) (chain_steps (Rows n w) n (rows-within n w) m k hm q) }

-- there is a round at which none is left
pub levels-some : (w : List ℕ) (n : ℕ) (sets : List ℕ) (r : ℕ) → 1 ≤ n → Levels w n sets r → 1 ≤ r
levels-some w n sets zero h levels = absurd (levels.none 0 (omega arith))
levels-some w n sets (suc r) h levels = omega arith

pub heights-some : (w : List ℕ) (n : ℕ) (sets old new : List ℕ) (r : ℕ) → 1 ≤ n → length new ≡ length old → Levels w n sets r → Written sets r n old new → Heights w n old new (Some r)
heights-some w n sets old new r some e levels wr = record {
  long = e;
  told = record {
    height = λ m h. last-height w n sets r levels m (get_or new m 0) h (wr.last m h);
    below = λ m h. last-below w n sets r levels m (get_or new m 0) h (wr.last m h);
    greatest = top;
    rest = wr.rest;
  };
}
  where
    top : (m : ℕ) × (m < n) × (suc (get_or new m 0) ≡ r)
    top =
        let t = levels.some (r - 1) (omega (arith, levels-some w n sets r some levels)) in
        let h = steps-small (Rows n w) n (rows-within n w) (r - 1) t.0 t.1 in
        let l = wr.last t.0 h in
        (t.0, h, omega (arith, last-most w n sets r levels t.0 (get_or new t.0 0) h l (r - 1) t.1, last-below w n sets r levels t.0 (get_or new t.0 0) h l))

pub heights-none : (w : List ℕ) (n : ℕ) (old : List ℕ) → (a : ℕ) × Plus (Rows n w) a a → Heights w n old old None
heights-none w n old t = record { long = refl; told = record { cyclic = t; kept = refl } }
