-- A loop that stores a value in each of the first n rows, from the first on.
use Prim.Native.Nat.{ℕ, ◌+◌, ◌<◌, ◌≤◌}
use mathlib.Core.Path.{◌≡◌, refl, ◌∙◌}
use mathlib.Core.List.{List}
use native.Mathlib.Omega.{arith}
use lib.ListN.{length, get_or, set, length-set}
use lib.Seq.{get_or-set_same, get_or-set_other}
use borrow.Author.Count.{below_more}
use Rattle.rows.specs.Closure.{KeptFrom, Cleared}

-- ---- rows that stay

pub kept-all : (n : ℕ) (rows : List ℕ) → KeptFrom n rows rows
kept-all n rows = record { rest = λ i h. refl; long = refl }

pub kept_on : (n : ℕ) (old mid new : List ℕ) → KeptFrom n old mid → KeptFrom n mid new → KeptFrom n old new
kept_on n old mid new a b = record { rest = λ i h. b.rest i h ∙ a.rest i h; long = b.long ∙ a.long }

-- a value stored below n
pub kept_store : (n : ℕ) (old rows : List ℕ) (i r : ℕ) → i < n → KeptFrom n old rows → KeptFrom n old (set rows i r)
kept_store n old rows i r h k = record { rest = λ j q. get_or-set_other rows i j r 0 (λ e. absurd (omega (arith, e))) ∙ k.rest j q; long = length-set rows i r ∙ k.long }

-- cleared after they were used
pub cleared-after : (n : ℕ) (old used new : List ℕ) → KeptFrom n old used → Cleared n used new → Cleared n old new
cleared-after n old used new k c = record { none = c.none; kept = kept_on n old used new k c.kept }

-- ---- rows that are filled

-- the rows below i are as Q says, and the others are as they were
module _ (Q : ℕ → ℕ → Type 0) (n : ℕ) (old : List ℕ) where
  pub record FillingRows (rows : List ℕ) (i : ℕ) : Type 0 where
    pub at_most : i ≤ n
    pub long : length rows ≡ length old
    pub done : (a : ℕ) → a < i → Q a (get_or rows a 0)
    pub todo : (a : ℕ) → i ≤ a → get_or rows a 0 ≡ get_or old a 0

  pub fill_start : FillingRows old 0
  fill_start = record { at_most = omega arith; long = refl; done = λ a h. absurd (omega arith); todo = λ a h. refl }

  pub fill_step : (rows : List ℕ) (i r : ℕ) → n ≤ length old → i < n → Q i r → FillingRows rows i → FillingRows (set rows i r) (i + 1)
  fill_step rows i r hn hi q f = record {
    at_most = omega arith;
    long = length-set rows i r ∙ f.long;
    done = below_more (λ a. Q a (get_or (set rows i r) a 0)) i (λ a h. rw (get_or-set_other rows i a r 0 (λ e. absurd (omega (arith, e)))) (f.done a h))
        (rw (get_or-set_same rows i r 0 (omega (arith, f.long))) q);
    todo = λ a h. get_or-set_other rows i a r 0 (λ e. absurd (omega (arith, e))) ∙ f.todo a (omega arith);
  }

  pub fill-each : (rows : List ℕ) (i : ℕ) → n ≤ i → FillingRows rows i → (a : ℕ) → a < n → Q a (get_or rows a 0)
  fill-each rows i h f a ha = f.done a (omega arith)

  pub fill-kept : (rows : List ℕ) (i : ℕ) → n ≤ i → FillingRows rows i → KeptFrom n old rows
  fill-kept rows i h f = record { rest = λ a ha. f.todo a (omega (arith, f.at_most)); long = f.long }
