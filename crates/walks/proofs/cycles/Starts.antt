-- All starts in order: the least start of the shortest closed walks.
use Prim.Native.Nat.{ℕ, suc, ◌+◌, ◌-◌, ◌<◌, ◌≤◌}
use mathlib.Core.Path.{◌≡◌, refl, subst}
use mathlib.Core.Logic.{◌⊎◌, inl, inr}
use mathlib.Core.List.{List, [], ◌∷◌}
use native.Mathlib.Decide.{ℕ_discrete, dec_lt}
use native.Mathlib.Omega.{arith}
use lib.ListN.{length, get_or}
use Rattle.std.specs.Prelude.{Option, Some, None, MatchOption}
use Rattle.rules.specs.Walks.{Exactly}
use Rattle.rules.specs.Plan.{Closed, Shown}
use Rattle.rules.proofs.Picked.{chain-exactly}
use Rattle.rules.proofs.Cycle.{shown?}
use Rattle.rows.specs.Rows.{Rows}
use Rattle.rows.proofs.Given.{rows?}
use Rattle.walks.specs.Walks.{Cycle}
use Rattle.walks.specs.declared.cycles.Start.{Start}
use Rattle.walks.specs.Sets.{ClosedFrom, Shortest, FoundAt, BestStart, Drawn}

-- The best of the starts below x: a closed walk of one step more than `most` begins there, and at no lower number one so short.
pub record Best (w s : List ℕ) (n most x : ℕ) (b : Start) : Type 0 where
  pub len_is : b.len ≡ suc most
  pub len_small : b.len ≤ n
  pub before_x : b.at < x
  pub opens : ClosedFrom w s n b.at (b.len - 1)
  pub least : (a : ℕ) → a < b.at → ¬ ClosedFrom w s n a (b.len - 1)

-- No start below x has a closed walk of at most `most` steps.
pub record StartsInv (w s : List ℕ) (n : ℕ) (best : Option Start) (most x : ℕ) : Type 0 where
  pub most_small : most ≤ n
  pub none : (a : ℕ) → a < x → (k : ℕ) → k < most → ¬ ClosedFrom w s n a k
  pub best-is : MatchOption best (most ≡ n) (Best w s n most x)

module _ (w s : List ℕ) (n : ℕ) where
  module _ (most x : ℕ) (hx : x < n) where
    -- no shorter walk begins at x
    pub starts-no : (best : Option Start) → StartsInv w s n best most x → Shortest w s n x most None → StartsInv w s n best most (x + 1)
    starts-no best inv short = record { most_small = inv.most_small; none = λ a h. go a h (ℕ_discrete a x); best-is = still best inv.best-is }
      where
        go : (a : ℕ) → a < x + 1 → Dec (a ≡ x) → (k : ℕ) → k < most → ¬ ClosedFrom w s n a k
        go a h (yes e) = rw e short
        go a h (no d) = inv.none a (omega arith)

        still : (best : Option Start) → MatchOption best (most ≡ n) (Best w s n most x) → MatchOption best (most ≡ n) (Best w s n most (x + 1))
        still None e = e
        still (Some b) t = record { len_is = t.len_is; len_small = t.len_small; before_x = omega (arith, t.before_x); opens = t.opens; least = t.least }

    -- a shorter walk begins at x
    pub starts-yes : (best : Option Start) (r : ℕ) → StartsInv w s n best most x → Shortest w s n x most (Some r) → StartsInv w s n (Some (record { len = r; at = x })) (r - 1) (x + 1)
    starts-yes best r inv short = record {
      most_small = omega (arith, short.fits, inv.most_small);
      none = λ a h. go a h (ℕ_discrete a x);
      best-is = record {
        len_is = omega (arith, short.some);
        len_small = omega (arith, short.fits, inv.most_small);
        before_x = omega arith;
        opens = short.opens;
        least = λ a h. inv.none a h (r - 1) (omega (arith, short.some, short.fits));
      };
    }
      where
        go : (a : ℕ) → a < x + 1 → Dec (a ≡ x) → (k : ℕ) → k < r - 1 → ¬ ClosedFrom w s n a k
        go a h (yes e) k q = rw e (short.none_shorter k (omega arith))
        go a h (no f) k q = inv.none a (omega arith) k (omega (arith, short.fits))

  -- a closed walk opens at its first number
  opened : (m : List ℕ) → Closed (Rows n w) (Rows n s) m → (1 ≤ length m) × (get_or m 0 0 < n) × ClosedFrom w s n (get_or m 0 0) (length m - 1)
  opened [] c = absurd c
  opened (a ∷ []) c = (omega arith, c.0.i_below, (a, c.0, refl))
  opened (a ∷ (b ∷ l)) c = (omega arith, c.0.i_below, (b, c.0, subst (λ (k : ℕ). Exactly (Rows n s) k b a) (left l) (chain-exactly (Rows n s) b a l c.1.1)))
    where
      left : (l : List ℕ) → suc (length l) ≡ suc (suc (length l)) - 1
      left l = omega arith

  module _ (best : Option Start) (most x : ℕ) (hx : n ≤ x) (inv : StartsInv w s n best most x) where
    all-longer : (m : List ℕ) → Closed (Rows n w) (Rows n s) m → most < length m
    all-longer m c = go (dec_lt most (length m))
      where
        go : Dec (most < length m) → most < length m
        go (yes h) = h
        go (no h) = let t = opened m c in absurd (inv.none (get_or m 0 0) (omega (arith, t.1)) (length m - 1) (omega (arith, t.0)) t.2)

    -- no closed walk at all: a shortest one would have at most n steps
    starts_none : most ≡ n → (m : List ℕ) → ¬ Closed (Rows n w) (Rows n s) m
    starts_none e = go (shown? n (Rows n w) (Rows n s) (rows? n w) (rows? n s) (λ a b r. (r.i_below, r.j_below)))
      where
        go : ((ms : List ℕ) × Shown (Rows n w) (Rows n s) ms × (length ms ≤ n)) ⊎ ((ms : List ℕ) → ¬ Closed (Rows n w) (Rows n s) ms) → (m : List ℕ) → ¬ Closed (Rows n w) (Rows n s) m
        go (inl t) = absurd (omega (arith, all-longer t.0 t.1.closed, e, t.2))
        go (inr f) = f

    starts-found : (b : Start) → Best w s n most x b → FoundAt w s n b.len b.at
    starts-found b t = record {
      opens = t.opens;
      none_shorter = λ m c. omega (arith, all-longer m c, t.len_is);
      none_before = λ m c e. before m c e (dec_lt (get_or m 0 0) b.at);
    }
      where
        before : (m : List ℕ) → Closed (Rows n w) (Rows n s) m → length m ≡ b.len → Dec (get_or m 0 0 < b.at) → b.at ≤ get_or m 0 0
        before m c e (no h) = omega arith
        before m c e (yes h) = absurd (t.least (get_or m 0 0) h (subst (λ (k : ℕ). ClosedFrom w s n (get_or m 0 0) (k - 1)) e (opened m c).2))

  pub starts-end : (best : Option Start) (most x : ℕ) → n ≤ x → x ≤ n → StartsInv w s n best most x → BestStart w s n best
  starts-end None most x hx at_most inv = starts_none None most x hx inv inv.best-is
  starts-end (Some b) most x hx at_most inv =
      let t = inv.best-is in
      record { some = omega (arith, t.len_is); fits = t.len_small; below = omega (arith, t.before_x); found = starts-found (Some b) most x hx inv b t }

  pub cycle-none : (old : List ℕ) → ((m : List ℕ) → ¬ Closed (Rows n w) (Rows n s) m) → Cycle w s n old old None
  cycle-none old f = record { long = refl; told = record { none = f; kept = refl } }

  pub cycle-some : (old new : List ℕ) (len : ℕ) → len ≤ n → length new ≡ length old → Drawn w s n len old new → Cycle w s n old new (Some len)
  cycle-some old new len h e t = record { long = e; told = record { fits = h; shown = t.shown; rest = t.rest } }
