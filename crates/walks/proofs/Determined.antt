-- The contracts determine the answers: two that they allow are equal, and so are the lent bytes.
use Prim.Native.Nat.{ℕ, zero, suc, ◌<◌, ◌≤◌}
use mathlib.Core.Path.{◌≡◌, refl, sym, ap, ap₂, ◌∙◌}
use mathlib.Core.List.{List, [], ◌∷◌, ◌++◌}
use native.Mathlib.Omega.{arith}
use lib.ListN.{length, get_or, take, drop, length-append, take-append-drop}
use lib.Seq.{length-take-le}
use Rattle.determined.specs.Determined.{DeterminesLent}
use Rattle.rules.specs.Walks.{Rel, Chain, Plus}
use Rattle.rules.specs.Plan.{Height}
use Rattle.rules.proofs.Cycle.{chain-join}
use Rattle.rules.proofs.Unique.{height-one, shown-one}
use Rattle.rows.specs.Rows.{Rows}
use Rattle.std.specs.Prelude.{Some, None}
use Rattle.walks.specs.Walks.{HeightsWritten, Heights, Cycle}

-- a number on a cycle has no height
no-height : (R : Rel) (a h : ℕ) → Plus R a a → ¬ Height R a h
no-height R a h w t =
    let c = chain-join R a a w.0 t.rest w.1 t.chain in
    absurd (omega (arith, t.longest (w.0 ++ a ∷ t.rest) c, length-append w.0 (a ∷ t.rest), t.steps))

-- a number on a cycle is below n
plus-below : (n : ℕ) (w : List ℕ) (a b : ℕ) (l : List ℕ) → Chain (Rows n w) a (l ++ b ∷ []) → a < n
plus-below n w a b [] c = c.0.i_below
plus-below n w a b (x ∷ l) c = c.0.i_below

-- lists that agree below n and from n on
by_parts : (n : ℕ) (l m : List ℕ) → length l ≡ length m → ((i : ℕ) → i < n → get_or l i 0 ≡ get_or m i 0) → drop n l ≡ drop n m → l ≡ m
by_parts zero l m e f d = d
by_parts (suc n) [] [] e f d = refl
by_parts (suc n) [] (y ∷ m) e f d = absurd (omega arith)
by_parts (suc n) (x ∷ l) [] e f d = absurd (omega arith)
by_parts (suc n) (x ∷ l) (y ∷ m) e f d = ap₂ ◌∷◌ (f 0 (omega arith)) (by_parts n l m (omega arith) (λ i h. f (suc i) (omega arith)) d)

module _ (w : List ℕ) (n : ℕ) (old : List ℕ) where
  not-both : (new : List ℕ) (r : ℕ) → (a : ℕ) × Plus (Rows n w) a a → ¬ HeightsWritten w n old new r
  not-both new r c t = no-height (Rows n w) c.0 (get_or new c.0 0) c.1 (t.height c.0 (plus-below n w c.0 c.0 c.1.0 c.1.1))

  module _ (new new' : List ℕ) (r r' : ℕ) (s : HeightsWritten w n old new r) (t : HeightsWritten w n old new' r') where
    same : (m : ℕ) → m < n → get_or new m 0 ≡ get_or new' m 0
    same m h = height-one (Rows n w) m (get_or new m 0) (get_or new' m 0) (s.height m h) (t.height m h)

    low : r ≤ r'
    low = let g = s.greatest in omega (arith, g.2, same g.0 g.1, t.below g.0 g.1)

    high : r' ≤ r
    high = let g = t.greatest in omega (arith, g.2, same g.0 g.1, s.below g.0 g.1)

  pub heights-one : DeterminesLent (Heights w n old)
  heights-one new new' None None s t = (refl, s.told.kept ∙ sym t.told.kept)
  heights-one new new' None (Some r') s t = absurd (not-both new' r' s.told.cyclic t.told)
  heights-one new new' (Some r) None s t = absurd (not-both new r t.told.cyclic s.told)
  heights-one new new' (Some r) (Some r') s t = (
    ap Some (omega (arith, low new new' r r' s.told t.told, high new new' r r' s.told t.told)),
    by_parts n new new' (s.long ∙ sym t.long) (same new new' r r' s.told t.told) (s.told.rest ∙ sym t.told.rest),
  )

module _ (w s : List ℕ) (n : ℕ) (old : List ℕ) (room : n ≤ length old) where
  pub cycle-one : DeterminesLent (Cycle w s n old)
  cycle-one new new' None None a b = (refl, a.told.kept ∙ sym b.told.kept)
  cycle-one new new' None (Some r') a b = absurd (a.told.none (take r' new') b.told.shown.closed)
  cycle-one new new' (Some r) None a b = absurd (b.told.none (take r new) a.told.shown.closed)
  cycle-one new new' (Some r) (Some r') a b = (ap Some same, sym (take-append-drop r new) ∙ ap₂ ◌++◌ front (a.told.rest ∙ ap (λ (k : ℕ). drop k old) same ∙ sym b.told.rest) ∙ take-append-drop r' new')
    where
      front : take r new ≡ take r' new'
      front = shown-one (Rows n w) (Rows n s) (take r new) (take r' new') a.told.shown b.told.shown

      same : r ≡ r'
      same = sym (length-take-le r new (omega (arith, a.told.fits, a.long))) ∙ ap length front ∙ length-take-le r' new' (omega (arith, b.told.fits, b.long))
