-- Rows gathered by sets: what the loops keep.
use Prim.Native.Nat.{ℕ, ◌+◌, ◌<◌, ◌≤◌}
use mathlib.Core.Path.{◌≡◌, refl, sym, subst, ◌∙◌}
use mathlib.Core.Logic.{◌⊎◌, inl, inr, ⊎_elim, ◌↔◌}
use mathlib.Core.List.{List}
use native.Mathlib.Decide.{ℕ_discrete}
use native.Mathlib.Omega.{arith}
use lib.ListN.{length, get_or, set, length-set}
use lib.Seq.{get_or-set_same, get_or-set_other}
use Rattle.rows.specs.Rows.{Bit}
use Rattle.rows.specs.Row.{Without, Join}
use Rattle.rows.specs.Closure.{KeptFrom}
use Rattle.rows.specs.Gather.{Tidy, Spread, Gathered}
use Rattle.rows.proofs.Bits.{bit?, bit-zero}

-- ---- one row, taken in by many

module _ (row set' : ℕ) (old : List ℕ) where
  pub record SpreadInv (rows : List ℕ) (left : ℕ) : Type 0 where
    pub long : length rows ≡ length old
    pub part : (b : ℕ) → Bit left b → Bit set' b
    pub todo : (b : ℕ) → Bit left b → get_or rows b 0 ≡ get_or old b 0
    pub done : (b : ℕ) → Bit set' b → ¬ Bit left b → Join (get_or old b 0) row (get_or rows b 0)
    pub rest : (b : ℕ) → ¬ Bit set' b → get_or rows b 0 ≡ get_or old b 0

  pub spread-start : SpreadInv old set'
  spread-start = record { long = refl; part = λ b x. x; todo = λ b x. refl; done = λ b x g. absurd (g x); rest = λ b g. refl }

  pub spread-step : (rows : List ℕ) (left at r next : ℕ) → ((b : ℕ) → Bit set' b → b < length old)
      → Bit left at → Join (get_or rows at 0) row r → Without left at next → SpreadInv rows left → SpreadInv (set rows at r) next
  spread-step rows left at r next fits low j w inv = record {
    long = length-set rows at r ∙ inv.long;
    part = λ b x. inv.part b ((w.bits b).0 x).0;
    todo = λ b x. let y = (w.bits b).0 x in get_or-set_other rows at b r 0 y.1 ∙ inv.todo b y.0;
    done = λ b x g. go b x g (ℕ_discrete b at);
    rest = λ b g. get_or-set_other rows at b r 0 (λ e. g (subst (Bit set') (sym e) (inv.part at low))) ∙ inv.rest b g;
  }
    where
      go : (b : ℕ) → Bit set' b → ¬ Bit next b → Dec (b ≡ at) → Join (get_or old b 0) row (get_or (set rows at r) b 0)
      go b x g (yes e) =
          subst (λ (z : ℕ). Join (get_or old z 0) row (get_or (set rows at r) z 0)) (sym e)
          (rw (get_or-set_same rows at r 0 (omega (arith, inv.long, fits at (inv.part at low))), ← (inv.todo at low)) j)
      go b x g (no f) = rw (get_or-set_other rows at b r 0 f) (inv.done b x (λ y. g ((w.bits b).1 (y, f))))

  pub spread-below : (rows : List ℕ) (left at : ℕ) → ((b : ℕ) → Bit set' b → b < length old) → Bit left at → SpreadInv rows left → at < length rows
  spread-below rows left at fits low inv = omega (arith, inv.long, fits at (inv.part at low))

  pub spread_end : (rows : List ℕ) (left : ℕ) → left ≡ 0 → SpreadInv rows left → Spread row set' old rows
  spread_end rows left e inv = record {
    taken = λ b x. inv.done b x (λ y. bit-zero b (subst (λ (l : ℕ). Bit l b) e y));
    rest = inv.rest;
    long = inv.long;
  }

-- ---- every row, taken in where its set says

module _ (n : ℕ) (given sets old : List ℕ) where
  pub record GatherInv (rows : List ℕ) (a : ℕ) : Type 0 where
    pub at_most : a ≤ n
    pub bits : (b c : ℕ) → b < n → Bit (get_or rows b 0) c ↔ ((x : ℕ) × (x < a) × Bit (get_or sets x 0) b × Bit (get_or given x 0) c)
    pub kept : KeptFrom n old rows

  pub gather-start : ((b : ℕ) → b < n → get_or old b 0 ≡ 0) → GatherInv old 0
  gather-start f = record {
    at_most = omega arith;
    bits = λ b c h. (λ x. absurd (bit-zero c (subst (λ (r : ℕ). Bit r c) (f b h) x)), λ t. absurd (omega (arith, t.1)));
    kept = record { rest = λ i h. refl; long = refl };
  }

  pub gather-step : (rows : List ℕ) (a : ℕ) (next : List ℕ) → Tidy n sets → a < n → Spread (get_or given a 0) (get_or sets a 0) rows next → GatherInv rows a → GatherInv next (a + 1)
  gather-step rows a next tidy ha s inv = record {
    at_most = omega arith;
    bits = λ b c h. go b c h (bit? (get_or sets a 0) b);
    kept = record {
      rest = λ i h. s.rest i (λ x. absurd (omega (arith, tidy a i ha x))) ∙ inv.kept.rest i h;
      long = s.long ∙ inv.kept.long;
    };
  }
    where
      From : ℕ → ℕ → ℕ → Type 0
      From k b c = (x : ℕ) × (x < k) × Bit (get_or sets x 0) b × Bit (get_or given x 0) c

      more : (b c : ℕ) → From a b c → From (a + 1) b c
      more b c t = (t.0, omega (arith, t.1), t.2, t.3)

      go : (b c : ℕ) → b < n → Dec (Bit (get_or sets a 0) b) → Bit (get_or next b 0) c ↔ From (a + 1) b c
      go b c h (yes x) = (
        λ y. ⊎_elim (λ z. more b c ((inv.bits b c h).0 z)) (λ z. (a, omega arith, x, z)) (((s.taken b x).bits c).0 y),
        λ t. ((s.taken b x).bits c).1 (pick t (ℕ_discrete t.0 a)),
      )
        where
          pick : (t : From (a + 1) b c) → Dec (t.0 ≡ a) → Bit (get_or rows b 0) c ⊎ Bit (get_or given a 0) c
          pick t (yes e) = inr (subst (λ (z : ℕ). Bit (get_or given z 0) c) e t.3)
          pick t (no g) = inl ((inv.bits b c h).1 (t.0, omega (arith, t.1), t.2, t.3))
      go b c h (no g) = (
        λ y. more b c ((inv.bits b c h).0 (subst (λ (r : ℕ). Bit r c) (s.rest b g) y)),
        λ t. subst (λ (r : ℕ). Bit r c) (sym (s.rest b g)) ((inv.bits b c h).1 (pick t (ℕ_discrete t.0 a))),
      )
        where
          pick : (t : From (a + 1) b c) → Dec (t.0 ≡ a) → From a b c
          pick t (yes e) = absurd (g (subst (λ (z : ℕ). Bit (get_or sets z 0) b) e t.2))
          pick t (no f) = (t.0, omega (arith, t.1), t.2, t.3)

  pub gather-end : (first rows : List ℕ) (a : ℕ) → n ≤ a → KeptFrom n first old → GatherInv rows a → Gathered n given sets first rows
  gather-end first rows a h k inv =
      let e : a ≡ n = omega (arith, inv.at_most) in
      record { bits = rw e at inv.bits; kept = record { rest = λ i l. inv.kept.rest i l ∙ k.rest i l; long = inv.kept.long ∙ k.long } }
