-- One start x of closed walks: how short they are.
use Prim.Native.Nat.{ℕ, zero, suc, ◌+◌, ◌-◌, ◌<◌, ◌≤◌}
use mathlib.Core.Path.{◌≡◌, refl, subst}
use mathlib.Core.Logic.{◌≢◌, ◌↔◌}
use mathlib.Core.List.{List}
use native.Mathlib.Decide.{ℕ_discrete, dec_le}
use native.Mathlib.Omega.{arith}
use native.Mathlib.Numerals.{add-one}
use lib.ListN.{get_or}
use Rattle.std.specs.Prelude.{Some, None}
use Rattle.rules.specs.Walks.{Rel, Exactly}
use Rattle.rows.specs.Rows.{Bit, Rows}
use Rattle.rows.specs.Row.{Meet, AllBelow}
use Rattle.rows.proofs.Bits.{bit-zero}
use Rattle.walks.specs.Sets.{Below, After, Reaches, ClosedFrom, Shortest}

-- ---- exactly k steps, with a step more at the end

module _ (R : Rel) where
  exactly-snoc : (k y z v : ℕ) → Exactly R k y z → R z v → Exactly R (suc k) y v
  exactly-snoc zero y z v e r = (v, rw e r, refl)
  exactly-snoc (suc k) y z v t r = (t.0, t.1, exactly-snoc k t.0 z v t.2 r)

  exactly-last : (k y v : ℕ) → Exactly R (suc k) y v → (z : ℕ) × Exactly R k y z × R z v
  exactly-last zero y v t = (y, refl, subst (R y) t.2 t.1)
  exactly-last (suc k) y v t = let u = exactly-last k t.0 v t.2 in (u.0, (t.0, t.1, u.1), u.2)

  -- the first k of j steps
  exactly-part : (k j y v : ℕ) → k ≤ j → Exactly R j y v → (z : ℕ) × Exactly R k y z
  exactly-part zero j y v h e = (y, refl)
  exactly-part (suc k) zero y v h e = absurd (omega arith)
  exactly-part (suc k) (suc j) y v h t = let u = exactly-part k j t.0 v (omega arith) t.2 in (u.0, (t.0, t.1, u.1))

-- ---- the loop of `shortest`

module _ (w s : List ℕ) (n x : ℕ) where
  goes_small : (k v : ℕ) → Reaches w s n x k v → v < n
  goes_small zero v t = rw (← t.2) t.1.j_below
  goes_small (suc k) v t = (exactly-last (Rows n s) k t.0 v t.2).2.j_below

  -- the row has the numbers that are reached by a step of w and k steps of s
  abbrev Front : ℕ → ℕ → Type 0
  Front k row = (v : ℕ) → Bit row v ↔ Reaches w s n x k v

  pub record ShortInv (most now k : ℕ) : Type 0 where
    pub at_most : k < most
    pub now-is : Front k now
    pub none : (j : ℕ) → j < k → ¬ ClosedFrom w s n x j

  -- no walk is looked for
  pub short-off : (most : ℕ) → most ≡ 0 → Shortest w s n x most None
  short-off most z k h = absurd (omega arith)

  pub short-start : (most all row : ℕ) → x < n → most ≢ 0 → AllBelow n all → Meet (get_or w x 0) all row → ShortInv most row 0
  short-start most all row hx d below both = record {
    at_most = omega arith;
    now-is = λ v. (
      λ b. let t = (both.bits v).0 b in (v, record { i_below = hx; j_below = (below.bits v).0 t.1; bit = t.0 }, refl),
      λ t. rw (← t.2) ((both.bits t.0).1 (t.1.bit, (below.bits t.0).1 t.1.j_below)),
    );
    none = λ j q. absurd (omega arith);
  }

  module _ (most now k : ℕ) (inv : ShortInv most now k) where
    pub front_below : Below n now
    front_below z b = goes_small k z ((inv.now-is z).0 b)

    -- the walk is closed
    pub short-found : (len : ℕ) → len ≡ k + 1 → Bit now x → Shortest w s n x most (Some len)
    short-found len e b =
        let q : k ≡ len - 1 = omega arith in
        record {
          some = omega arith;
          fits = omega (arith, inv.at_most);
          opens = subst (ClosedFrom w s n x) q ((inv.now-is x).0 b);
          none_shorter = λ j h. inv.none j (omega arith);
        }

    module _ (apart : ¬ Bit now x) where
      none_yet : (j : ℕ) → j ≤ k → ¬ ClosedFrom w s n x j
      none_yet j h = go (ℕ_discrete j k)
        where
          go : Dec (j ≡ k) → ¬ ClosedFrom w s n x j
          go (yes e) = rw e (λ t. apart ((inv.now-is x).1 t))
          go (no d) = inv.none j (omega arith)

      -- no step leads on
      pub short-empty : now ≡ 0 → Shortest w s n x most None
      short-empty z j h = go j (dec_le j k)
        where
          go : (j : ℕ) → Dec (j ≤ k) → ¬ ClosedFrom w s n x j
          go j (yes h) = none_yet j h
          go j (no h) = λ t.
              let u = exactly-part (Rows n s) k j t.0 x (omega arith) t.2 in
              bit-zero u.0 (subst (λ (row : ℕ). Bit row u.0) z ((inv.now-is u.0).1 (t.0, t.1, u.1)))

      -- no length is left
      pub short-full : k + 1 ≡ most → Shortest w s n x most None
      short-full e j h = none_yet j (omega arith)

      pub short-step : (next len : ℕ) → len ≡ k + 1 → len < most → After s n now next → ShortInv most next len
      short-step next len e d i = record { at_most = d; now-is = rw (e, add-one k) next-is; none = λ j h. none_yet j (omega arith) }
        where
          next-is : Front (suc k) next
          next-is v = (
            λ b. let t = (i.bits v).0 b in let g = (inv.now-is t.1.0).0 t.1.1 in
                (g.0, g.1, exactly-snoc (Rows n s) k g.0 t.1.0 v g.2 (record { i_below = goes_small k t.1.0 g; j_below = t.0; bit = t.1.2 })),
            λ g. let t = exactly-last (Rows n s) k g.0 v g.2 in (i.bits v).1 (t.2.j_below, (t.0, (inv.now-is t.0).1 (g.0, g.1, t.1), t.2.bit)),
          )
