-- Bits of rows, for the code's `|`, `&`, `<<`, `>>`, `trailing_zeros` and `count_ones`.
use Prim.Native.Nat.{ℕ, zero, suc, ◌+◌, ◌-◌, ◌*◌, ◌<◌, ◌≤◌, ◌/◌, ◌%◌, ◌^◌, min, max}
use mathlib.Core.Path.{◌≡◌, refl, sym, subst, ap, ◌∙◌}
use mathlib.Core.Logic.{◌⊎◌, inl, inr, ⊎_elim, ◌↔◌, ◌≢◌}
use native.Mathlib.Nat.{div_self, div-eq_of_lt, pow-suc, add_comm, div-one, zero-div, le_dest, one-mul}
use native.Mathlib.Decide.{ℕ_discrete, dec_le, dec_lt}
use native.Mathlib.Numerals.{add-one}
use native.Mathlib.Omega.{arith}
use lib.Bits.{bit_and, bit_or, and_step, or_step, and_shr, or_shr, and_self, and_le_r}
use lib.Dec.{lit<}
use lib.Count.{ones, ones_step, count_trailing_zeros, trailing_le, under}
use lib.Pow.{shr-shr, pow_pos, pow-add, pow-lt, shl-shr, shl_exact, ones_split, high, ones_lt}
use Rattle.rules.specs.Plan.{Counts}
use Rattle.rules.proofs.Search.{First, None, first_below}
use Rattle.rules.proofs.Same.{counts-map}
use Rattle.rows.specs.Rows.{Bit}
use Rattle.rows.specs.Row.{WithoutLowest, Meet, AllBelow, Lowest, Ones}
use Rattle.rules.proofs.Cycle.{compare}

pub bit? : (row j : ℕ) → Dec (Bit row j)
bit? row j = ℕ_discrete (row / 2 ^ j % 2) 1

digit : (x : ℕ) → (x % 2 ≡ 0) ⊎ (x % 2 ≡ 1)
digit x = pick (ℕ_discrete (x % 2) 1)
  where
    pick : Dec (x % 2 ≡ 1) → (x % 2 ≡ 0) ⊎ (x % 2 ≡ 1)
    pick (yes e) = inr e
    pick (no d) = inl (omega arith)

pub bit-or : (a b j : ℕ) → Bit (bit_or a b) j ↔ (Bit a j ⊎ Bit b j)
bit-or a b j = (λ h. there h (digit x) (digit y), ⊎_elim (λ h. omega (arith, e, f)) (λ h. omega (arith, e, f)))
  where
    x : ℕ
    x = a / 2 ^ j

    y : ℕ
    y = b / 2 ^ j

    e : bit_or a b / 2 ^ j ≡ bit_or x y
    e = or_shr a b j

    f : bit_or x y ≡ bit_or (x / 2) (y / 2) * 2 + max (x % 2) (y % 2)
    f = or_step x y

    there : Bit (bit_or a b) j → (x % 2 ≡ 0) ⊎ (x % 2 ≡ 1) → (y % 2 ≡ 0) ⊎ (y % 2 ≡ 1) → Bit a j ⊎ Bit b j
    there h (inr u) v = inl u
    there h (inl u) (inr v) = inr v
    there h (inl u) (inl v) = absurd (omega (arith, e, f))

pub bit-and : (a b j : ℕ) → Bit (bit_and a b) j ↔ (Bit a j × Bit b j)
bit-and a b j = (λ h. (omega (arith, e, f), omega (arith, e, f)), λ t. omega (arith, e, f, t.0, t.1))
  where
    x : ℕ
    x = a / 2 ^ j

    y : ℕ
    y = b / 2 ^ j

    e : bit_and a b / 2 ^ j ≡ bit_and x y
    e = and_shr a b j

    f : bit_and x y ≡ bit_and (x / 2) (y / 2) * 2 + min (x % 2) (y % 2)
    f = and_step x y

-- no bit in 0
pub bit-zero : (j : ℕ) → ¬ Bit 0 j
bit-zero j h = omega (arith, zero-div (2 ^ j))

pow-shr : (d i j : ℕ) → j ≡ d + i → 2 ^ j / 2 ^ i ≡ 2 ^ d
pow-shr d i j e = rw (e, pow-add) (shl-shr (2 ^ d) i)

-- the one bit of `1 << j`
pub bit-pow : (j i : ℕ) → Bit (2 ^ j) i ↔ (i ≡ j)
bit-pow j i = (λ h. there h (compare i j), λ e. rw e (omega (arith, div_self (pow_pos j))))
  where
    there : Bit (2 ^ j) i → (i < j) ⊎ ((i ≡ j) ⊎ (j < i)) → i ≡ j
    there h (inr (inl e)) = e
    there h (inr (inr l)) = absurd (omega (arith, div-eq_of_lt (pow-lt l)))
    there h (inl l) =
        let d = le_dest l in
        let e : j ≡ suc d.0 + i = omega (arith, d.1) in
        absurd (omega (arith, pow-shr (suc d.0) i j e, pow-suc 2 d.0))

-- the bits of half a row
pub bit-half : (row j : ℕ) → Bit (row / 2) j ↔ Bit row (suc j)
bit-half row j =
    let e : row / 2 / 2 ^ j ≡ row / 2 ^ suc j = shr-shr row 1 j ∙ ap (λ (k : ℕ). row / 2 ^ k) (add_comm 1 j ∙ add-one j) in
    (λ h. omega (arith, e), λ h. omega (arith, e))

-- ---- a row that is zero, or has a bit

pub no_bits : (w row : ℕ) → row < 2 ^ w → ((j : ℕ) → j < w → ¬ Bit row j) → row ≡ 0
no_bits zero row h f = omega arith
no_bits (suc w) row h f =
    let low : ¬ (row % 2 ≡ 1) = λ e. f 0 (omega arith) (omega (arith, div-one row)) in
    omega (arith, low, no_bits w (row / 2) (omega (arith, pow-suc 2 w)) (λ j k b. f (suc j) (omega arith) ((bit-half row j).0 b)))

-- a number has fewer bits than it says
under-power : (k : ℕ) → k < 2 ^ k
under-power zero = omega arith
under-power (suc k) = omega (arith, under-power k, pow-suc 2 k)

-- a row that is not 0 has a bit
pub some-bit : (row : ℕ) → row ≢ 0 → (z : ℕ) × Bit row z
some-bit row g = go (first_below (Bit row) (bit? row) row)
  where
    go : First (Bit row) row ⊎ None (Bit row) row → (z : ℕ) × Bit row z
    go (inl t) = (t.0, t.2)
    go (inr f) = absurd (g (no_bits row row (under-power row) f))

-- two rows of w bits with the same bits are equal
pub same_bits : (w a b : ℕ) → a < 2 ^ w → b < 2 ^ w → ((j : ℕ) → j < w → Bit a j ↔ Bit b j) → a ≡ b
same_bits zero a b h k f = omega arith
same_bits (suc w) a b h k f =
    let high : a / 2 ≡ b / 2 =
    same_bits w (a / 2) (b / 2) (omega (arith, pow-suc 2 w)) (omega (arith, pow-suc 2 w)) (
    λ j l. (
      λ x. (bit-half b j).1 ((f (suc j) (omega arith)).0 ((bit-half a j).0 x)),
      λ x. (bit-half a j).1 ((f (suc j) (omega arith)).1 ((bit-half b j).0 x)),
    )
    )
    in
    low high (digit a) (digit b)
  where
    low : a / 2 ≡ b / 2 → (a % 2 ≡ 0) ⊎ (a % 2 ≡ 1) → (b % 2 ≡ 0) ⊎ (b % 2 ≡ 1) → a ≡ b
    low e (inl x) (inl y) = omega arith
    low e (inr x) (inr y) = omega arith
    low e (inl x) (inr y) = absurd (omega (arith, div-one a, (f 0 (omega arith)).1 (omega (arith, div-one b))))
    low e (inr x) (inl y) = absurd (omega (arith, div-one b, (f 0 (omega arith)).0 (omega (arith, div-one a))))

-- a set bit is at most the row
pub bit_le : (row j : ℕ) → Bit row j → 2 ^ j ≤ row
bit_le row j b = go (dec_le (2 ^ j) row)
  where
    go : Dec (2 ^ j ≤ row) → 2 ^ j ≤ row
    go (yes h) = h
    go (no g) = absurd (omega (arith, div-eq_of_lt (let h : row < 2 ^ j = omega arith in h)))

-- in a row of w bits they stand below w
pub bit_below : (w row j : ℕ) → row < 2 ^ w → Bit row j → j < w
bit_below w row j h b = go (compare j w)
  where
    go : (j < w) ⊎ ((j ≡ w) ⊎ (w < j)) → j < w
    go (inl l) = l
    go (inr (inl e)) = absurd (omega (arith, bit_le row j b, ap (λ (k : ℕ). 2 ^ k) e))
    go (inr (inr l)) = absurd (omega (arith, bit_le row j b, pow-lt l))

-- ---- the lowest bit

under-cases : (d t : ℕ) → d < 2 → ((d ≡ 0) × (under d t ≡ suc t)) ⊎ ((d ≡ 1) × (under d t ≡ 0))
under-cases zero t h = inl (refl, refl)
under-cases (suc zero) t h = inr (refl, refl)
under-cases (suc (suc d)) t h = absurd (omega arith)

pub trailing-bit : (w row : ℕ) → count_trailing_zeros w row < w → Bit row (count_trailing_zeros w row)
unfolding count_trailing_zeros
trailing-bit zero row h = absurd (omega arith)
trailing-bit (suc w) row h = go (trailing-bit w (row / 2)) (under-cases (row % 2) (count_trailing_zeros w (row / 2)) (omega arith))
  where
    go : (count_trailing_zeros w (row / 2) < w → Bit (row / 2) (count_trailing_zeros w (row / 2)))
        → ((row % 2 ≡ 0) × (under (row % 2) (count_trailing_zeros w (row / 2)) ≡ suc (count_trailing_zeros w (row / 2)))) ⊎ ((row % 2 ≡ 1) × (under (row % 2) (count_trailing_zeros w (row / 2)) ≡ 0))
        → Bit row (under (row % 2) (count_trailing_zeros w (row / 2)))
    go ih (inl t) = rw t.1 ((bit-half row (count_trailing_zeros w (row / 2))).0 (ih (omega (arith, t.1))))
    go ih (inr t) = rw t.1 (omega (arith, div-one row, t.0))

-- below it there is none; where the count is the whole width, there is no bit below the width
pub trailing-none : (w row j : ℕ) → j < count_trailing_zeros w row → ¬ Bit row j
unfolding count_trailing_zeros
trailing-none zero row j h b = absurd (omega arith)
trailing-none (suc w) row zero h b = go (under-cases (row % 2) (count_trailing_zeros w (row / 2)) (omega arith))
  where
    go : ((row % 2 ≡ 0) × (under (row % 2) (count_trailing_zeros w (row / 2)) ≡ suc (count_trailing_zeros w (row / 2)))) ⊎ ((row % 2 ≡ 1) × (under (row % 2) (count_trailing_zeros w (row / 2)) ≡ 0)) → ⊥
    go (inl t) = omega (arith, t.0, div-one row)
    go (inr t) = omega (arith, t.1)
trailing-none (suc w) row (suc j) h b = go (trailing-none w (row / 2) j) (under-cases (row % 2) (count_trailing_zeros w (row / 2)) (omega arith))
  where
    go : (j < count_trailing_zeros w (row / 2) → ¬ Bit (row / 2) j)
        → ((row % 2 ≡ 0) × (under (row % 2) (count_trailing_zeros w (row / 2)) ≡ suc (count_trailing_zeros w (row / 2)))) ⊎ ((row % 2 ≡ 1) × (under (row % 2) (count_trailing_zeros w (row / 2)) ≡ 0)) → ⊥
    go ih (inl t) = ih (omega (arith, t.1)) ((bit-half row j).1 b)
    go ih (inr t) = omega (arith, t.1)

-- it is the lowest of a row that is not 0
pub lowest-place : (w row : ℕ) → row < 2 ^ w → 0 < row → Lowest w row (count_trailing_zeros w row)
lowest-place w row h p = go (dec_lt (count_trailing_zeros w row) w)
  where
    go : Dec (count_trailing_zeros w row < w) → Lowest w row (count_trailing_zeros w row)
    go (no d) = absurd (omega (arith, no_bits w row h (λ j k. trailing-none w row j (omega (arith, trailing_le w row)))))
    go (yes k) = record { below = k; bit = trailing-bit w row k; least = λ z b. least z b (dec_le (count_trailing_zeros w row) z) }
      where
        least : (z : ℕ) → Bit row z → Dec (count_trailing_zeros w row ≤ z) → count_trailing_zeros w row ≤ z
        least z b (yes q) = q
        least z b (no q) = absurd (trailing-none w row z (omega arith) b)

-- ---- a bit set, the lowest bit cleared

-- `row | 1 << j` at w bits
pub bit-set : (w row j i : ℕ) → j < w → Bit (bit_or row (1 * 2 ^ j % 2 ^ w)) i ↔ (Bit row i ⊎ (i ≡ j))
bit-set w row j i h = rw (shl_exact {a = 1} 1 j w (lit< tt) (omega arith), one-mul (2 ^ j)) (
  λ b. ⊎_elim inl (λ x. inr ((bit-pow j i).0 x)) ((bit-or row (2 ^ j) i).0 b),
  λ t. (bit-or row (2 ^ j) i).1 (⊎_elim inl (λ e. inr ((bit-pow j i).1 e)) t),
)

-- `row & (row - 1)` keeps all bits but the lowest
clear-lowest : (t row : ℕ) → Bit row t → ((j : ℕ) → j < t → ¬ Bit row j) → (j : ℕ) → Bit (bit_and row (row - 1)) j ↔ (Bit row j × ¬ (j ≡ t))
clear-lowest zero row b f zero =
    let e = and_step row (row - 1) in
    (λ h. absurd (omega (arith, e, div-one row, div-one (bit_and row (row - 1)))), λ p. absurd (p.1 refl))
clear-lowest zero row b f (suc j) =
    let odd : row % 2 ≡ 1 = omega (arith, div-one row) in
    let low : (row - 1) / 2 ≡ row / 2 = omega arith in
    let e : bit_and row (row - 1) / 2 ≡ row / 2 = omega (arith, and_step row (row - 1), ap (bit_and (row / 2)) low, and_self (row / 2)) in
    let half = bit-half (bit_and row (row - 1)) j in
    let own = bit-half row j in
    (λ h. (own.0 (subst (λ (k : ℕ). Bit k j) e (half.1 h)), λ q. absurd (omega (arith, q))), λ p. half.0 (subst (λ (k : ℕ). Bit k j) (sym e) (own.1 p.0)))
clear-lowest (suc t) row b f zero =
    let even : ¬ Bit row 0 = f 0 (omega arith) in
    let e = and_step row (row - 1) in
    (λ h. absurd (even (omega (arith, e, div-one row, div-one (bit_and row (row - 1))))), λ p. absurd (even p.0))
clear-lowest (suc t) row b f (suc j) =
    let even : ¬ (row % 2 ≡ 1) = λ q. f 0 (omega arith) (omega (arith, div-one row)) in
    let some : ¬ (row ≡ 0) = λ q. bit-zero (suc t) (subst (λ (k : ℕ). Bit k (suc t)) q b) in
    let low : (row - 1) / 2 ≡ row / 2 - 1 = omega (arith, even, some) in
    let e : bit_and row (row - 1) / 2 ≡ bit_and (row / 2) (row / 2 - 1) = omega (arith, and_step row (row - 1), ap (bit_and (row / 2)) low, even) in
    let half = bit-half (bit_and row (row - 1)) j in
    let own = bit-half row j in
    let ih = clear-lowest t (row / 2) ((bit-half row t).1 b) (λ i h q. f (suc i) (omega arith) ((bit-half row i).0 q)) j in (
      λ h. let p = ih.0 (subst (λ (k : ℕ). Bit k j) e (half.1 h)) in (own.0 p.0, λ q. p.1 (omega (arith, q))),
      λ p. half.0 (subst (λ (k : ℕ). Bit k j) (sym e) (ih.1 (own.1 p.0, λ q. p.1 (ap suc q)))),
    )

pub without-lowest : (w row : ℕ) → WithoutLowest w row (bit_and row (row - 1))
without-lowest w row = record { cleared = λ j low. record { bits = clear-lowest j row low.bit (λ i h b. absurd (omega (arith, h, low.least i b))); less = omega (arith, and_le_r row (row - 1), some j low) } }
  where
    some : (j : ℕ) → Lowest w row j → ¬ (row ≡ 0)
    some j low q = bit-zero j (subst (λ (k : ℕ). Bit k j) q low.bit)

-- ---- the bits from a place on

pub bit-shr : (row n j : ℕ) → Bit (row / 2 ^ n) j ↔ Bit row (n + j)
bit-shr row n j = (λ b. omega (arith, shr-shr row n j), λ b. omega (arith, shr-shr row n j))

-- nothing is left of the row after n bits are shifted out: there are none
pub none_from : (row n j : ℕ) → row / 2 ^ n ≡ 0 → n ≤ j → ¬ Bit row j
none_from row n j e h b =
    let d = le_dest h in
    bit-zero d.0 (subst (λ (r : ℕ). Bit r d.0) e ((bit-shr row n d.0).1 (subst (Bit row) (sym d.1) b)))

-- ---- counting bits

-- the lowest number counted first
counts-yes : (P : ℕ → Type 0) → P 0 → (n k : ℕ) → Counts (λ j. P (suc j)) n k → Counts P (suc n) (suc k)
counts-yes P p zero k e = inl (0, p, refl, ap suc e)
counts-yes P p (suc n) k (inl t) = inl (suc t.0, t.1, counts-yes P p n t.0 t.2, ap suc t.3)
counts-yes P p (suc n) k (inr t) = inr (t.0, counts-yes P p n k t.1)

counts-no : (P : ℕ → Type 0) → ¬ P 0 → (n k : ℕ) → Counts (λ j. P (suc j)) n k → Counts P (suc n) k
counts-no P p zero k e = inr (p, e)
counts-no P p (suc n) k (inl t) = inl (t.0, t.1, counts-no P p n t.0 t.2, t.3)
counts-no P p (suc n) k (inr t) = inr (t.0, counts-no P p n k t.1)

-- `count_ones` counts the bits of a row
pub ones-counts : (w row : ℕ) → row < 2 ^ w → Counts (Bit row) w (ones row)
unfolding ones
ones-counts zero row h = subst (λ (r : ℕ). ones r ≡ 0) (sym (zero_of row (omega arith))) refl
  where
    zero_of : (r : ℕ) → r < 1 → r ≡ 0
    zero_of r k = omega arith
ones-counts (suc w) row h = go (counts-map (Bit (row / 2)) (λ j. Bit row (suc j)) (bit-half row) w (ones (row / 2)) (ones-counts w (row / 2) (omega (arith, pow-suc 2 w)))) (ℕ_discrete (row % 2) 1)
  where
    go : Counts (λ j. Bit row (suc j)) w (ones (row / 2)) → Dec (row % 2 ≡ 1) → Counts (Bit row) (suc w) (ones row)
    go c (yes e) = rw (one e) (counts-yes (Bit row) (omega (arith, div-one row)) w (ones (row / 2)) c)
      where
        one : row % 2 ≡ 1 → ones row ≡ suc (ones (row / 2))
        one e = omega (arith, ones_step row)
    go c (no d) = rw (none d) (counts-no (Bit row) (λ b. d (omega (arith, div-one row))) w (ones (row / 2)) c)
      where
        none : ¬ (row % 2 ≡ 1) → ones row ≡ ones (row / 2)
        none d = omega (arith, ones_step row)

pub ones-place : (w row : ℕ) → row < 2 ^ w → Ones w row (ones row)
ones-place w row h = record { counted = ones-counts w row h }

-- ---- two rows meet: a common bit

pub meet-some : (a b r : ℕ) → Meet a b r → r ≢ 0 → (z : ℕ) × Bit a z × Bit b z
meet-some a b r m g = let t = some-bit r g in let u = (m.bits t.0).0 t.1 in (t.0, u.0, u.1)

pub meet-none : (a b r : ℕ) → Meet a b r → r ≡ 0 → (z : ℕ) → Bit a z → ¬ Bit b z
meet-none a b r m e z x y = bit-zero z (subst (λ (k : ℕ). Bit k z) e ((m.bits z).1 (x, y)))

-- ---- every bit below n

ones-bits : (n j : ℕ) → Bit (2 ^ n - 1) j ↔ (j < n)
ones-bits zero j = (λ b. absurd (bit-zero j b), λ h. absurd (omega arith))
ones-bits (suc n) zero = (λ b. omega arith, λ h. omega (arith, pow-suc 2 n, pow_pos n, div-one (2 ^ suc n - 1)))
ones-bits (suc n) (suc j) =
    let e : (2 ^ suc n - 1) / 2 ≡ 2 ^ n - 1 = omega (arith, pow-suc 2 n, pow_pos n) in
    let ih = ones-bits n j in
    let half = bit-half (2 ^ suc n - 1) j in
    (λ b. omega (arith, ih.0 (rw e at (half.1 b))), λ h. half.0 (rw e (ih.1 (omega arith))))

ones-shifted : (w n : ℕ) → n ≤ w → (2 ^ w - 1) / 2 ^ (w - n) ≡ 2 ^ n - 1
ones-shifted w n h =
    let s : w ≡ n + (w - n) = omega arith in
    let e : 2 ^ w - 1 ≡ (2 ^ n - 1) * 2 ^ (w - n) + (2 ^ (w - n) - 1) = ap (λ (k : ℕ). 2 ^ k - 1) s ∙ ones_split n (w - n) in
    ap (λ (k : ℕ). k / 2 ^ (w - n)) e ∙ high (2 ^ n - 1) (w - n) (ones_lt (w - n))

-- every bit of a row, shifted to the right until n are left
pub all-below : (w n : ℕ) → n ≤ w → AllBelow n ((2 ^ w - 1) / 2 ^ (w - n))
all-below w n h = record { bits = λ j. rw (ones-shifted w n h) (ones-bits n j) }
