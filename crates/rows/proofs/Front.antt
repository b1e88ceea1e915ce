-- The first n rows of a table, worked on where they stand: the table is then what they became, with the rows from n on behind.
use Prim.Native.Nat.{ℕ, ◌-◌, ◌<◌, ◌≤◌}
use mathlib.Core.Path.{◌≡◌, ap, ◌∙◌}
use mathlib.Core.List.{List, ◌++◌}
use native.Mathlib.Omega.{arith}
use lib.ListN.{length, get_or, take, drop}
use Rattle.std.proofs.lemmas.List.{length-append, length-drop, length-take-le, get_or-take, get_or-drop, get_or_append_left, get_or-append_right}
use Rattle.rows.specs.Rows.{Bit}
use Rattle.rows.specs.Closure.{KeptFrom, Round, Holders}
use Rattle.rows.proofs.Counting.{counts-below}

module _ (n : ℕ) (given front : List ℕ) (fits : n ≤ length given) (long : length front ≡ length (take n given)) where
  front-long : length front ≡ n
  front-long = long ∙ length-take-le n given fits

  pub front-below : (i : ℕ) → i < n → get_or (front ++ drop n given) i 0 ≡ get_or front i 0
  front-below i h = get_or_append_left front (drop n given) 0 i (omega (arith, front-long))

  pub front-kept : KeptFrom n given (front ++ drop n given)
  front-kept = record {
    rest = λ i h. get_or-append_right front (drop n given) n i 0 front-long h ∙ get_or-drop n given (i - n) 0 ∙ ap (λ (k : ℕ). get_or given k 0) (omega arith);
    long = length-append front (drop n given) ∙ (omega (arith, front-long, length-drop n given));
  }

  -- a round of the first n rows alone
  pub front-round : (k : ℕ) → k < n → Round (take n given) n k front → Round given n k (front ++ drop n given)
  front-round k hk r = record {
    each = λ i h. rw (front-below i h, ← (get_or-take n given i 0 h), ← (get_or-take n given k 0 hk)) (r.each i h);
    kept = front-kept;
  }

-- who holds k, of the first n rows alone
pub front-holders : (n k c : ℕ) (given : List ℕ) → Holders (take n given) n k c → Holders given n k c
front-holders n k c given h = record {
  counted = counts-below (λ i. Bit (get_or (take n given) i 0) k) (λ i. Bit (get_or given i 0) k) n c
      (λ i l. rw (get_or-take n given i 0 l) (λ x. x, λ x. x)) h.counted;
}
