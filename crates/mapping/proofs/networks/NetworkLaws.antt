-- Laws of the network that a field writes: one digit, or two of which the first is not 0, and below `most`.
use mathlib.Core.Path.{◌≡◌, refl, sym, ap, ◌∙◌}
use mathlib.Core.Bool.{Bool, true, false, cond}
use mathlib.Core.List.{List, [], ◌∷◌, ◌++◌}
use mathlib.Core.Logic.{◌⊎◌, inl, inr, ⊎_elim}
use Prim.Native.Nat.{ℕ, zero, suc, ◌+◌, ◌-◌, ◌*◌, ◌/◌, ◌%◌, ◌≤◌, ◌<◌}
use native.Mathlib.Omega.{arith}
use lib.ListN.{length, get_or, take}
use lib.Seq.{take_all}
use lib.Dec.{ltb}
use borrow.Author.Tests.{lt-ltb, le-ltb, ltb-true, ltb-false}
use Rattle.rules.specs.declared.Network.{Network}
use Rattle.rules.specs.Numbers.{as_network}
use Rattle.rules.specs.Lists.{up_to}
use Rattle.text.specs.Parts.{first_index}
use Rattle.text.specs.Written.{decimal}
use Rattle.text.proofs.Parts.{true_same, same_false, first-at, first-none}
use Rattle.text.proofs.Found.{found_nothing}
use Rattle.text.proofs.Written.{decimal-small, decimal_step}
use Rattle.std.specs.Prelude.{Some, None}
use Rattle.std.proofs.lemmas.Option.{cond_some, none-some, same_Some}
use Rattle.mapping.specs.networks.Networks.{written_as, network_of_lem, is_network, found_network}

module _ {A : Type 0} where
  pub get_or-up_to_lem : (n i : ℕ) (f : ℕ → A) (d : A) → i < n → get_or (up_to n f) i d ≡ f i
  get_or-up_to_lem zero i f d h = absurd (omega arith)
  get_or-up_to_lem (suc n) zero f d h = refl
  get_or-up_to_lem (suc n) (suc i) f d h = get_or-up_to_lem n i (λ k. f (suc k)) d (omega arith)

  pub length-up_to_lem : (n : ℕ) (f : ℕ → A) → length (up_to n f) ≡ n
  length-up_to_lem zero f = refl
  length-up_to_lem (suc n) f = ap suc (length-up_to_lem n (λ k. f (suc k)))

-- ---- how a number below 100 is written

pub low_or_high : (n : ℕ) → (n < 10) ⊎ (10 ≤ n)
low_or_high n = go (ltb n 10) refl
  where
    go : (t : Bool) → ltb n 10 ≡ t → (n < 10) ⊎ (10 ≤ n)
    go true e = inl (ltb-true n 10 e)
    go false e = inr (ltb-false n 10 e)

pub two : (n : ℕ) → 10 ≤ n → n < 100 → decimal n ≡ (n / 10 + 48) ∷ (n % 10 + 48) ∷ []
two n h k = decimal_step n h ∙ ap (λ (l : List ℕ). l ++ ((n % 10 + 48) ∷ [])) (decimal-small (n / 10) (omega arith))

-- The number that one or two digits write.
abbrev value : List ℕ → ℕ
value [] = 0
value (a ∷ []) = a - 48
value (a ∷ b ∷ l) = (a - 48) * 10 + (b - 48)

value-decimal : (n : ℕ) → n < 100 → value (decimal n) ≡ n
value-decimal n h =
    ⊎_elim (λ (k : n < 10). ap value (decimal-small n k) ∙ omega arith) (λ (k : 10 ≤ n). ap value (two n k h) ∙ omega arith) (low_or_high n)

pub decimal-same : (m n : ℕ) → m < 100 → n < 100 → decimal m ≡ decimal n → m ≡ n
decimal-same m n h k e = sym (value-decimal m h) ∙ ap value e ∙ value-decimal n k

-- a list by its length
of_one : (x : List ℕ) → length x ≡ 1 → x ≡ get_or x 0 0 ∷ []
of_one [] e = absurd (omega arith)
of_one (a ∷ []) e = refl
of_one (a ∷ b ∷ l) e = absurd (omega arith)

of_two : (x : List ℕ) → length x ≡ 2 → x ≡ get_or x 0 0 ∷ get_or x 1 0 ∷ []
of_two [] e = absurd (omega arith)
of_two (a ∷ []) e = absurd (omega arith)
of_two (a ∷ b ∷ []) e = refl
of_two (a ∷ b ∷ d ∷ l) e = absurd (omega arith)

-- ---- the network, of `most`

module _ (most : ℕ) where
  abbrev below : List ℕ
  below = up_to most (λ n. n)

  -- all of them are asked
  whole : (x : List ℕ) → first_index (written_as x) below ≡ first_index (written_as x) (take most below)
  whole x = ap (first_index (written_as x)) (sym (take_all most below (omega (arith, length-up_to_lem most (λ (k : ℕ). k)))))

  -- a number below `most` is read back
  pub network-found : most ≤ 100 → (n : ℕ) → n < most → network_of_lem most (decimal n) ≡ n
  unfolding network_of_lem
  network-found few n h =
      whole (decimal n)
      ∙ first-at (written_as (decimal n)) below most n 0 h (omega (arith, length-up_to_lem most (λ (k : ℕ). k)))
      (λ j k. ap (written_as (decimal n)) (get_or-up_to_lem most j (λ (i : ℕ). i) 0 (omega arith))
      ∙ same_false (decimal j) (decimal n) (λ e. omega (arith, decimal-same j n (omega arith) (omega arith) e)))
      (ap (written_as (decimal n)) (get_or-up_to_lem most n (λ (i : ℕ). i) 0 h) ∙ true_same (decimal n) (decimal n) refl)

  network-none : (x : List ℕ) → ((n : ℕ) → n < most → decimal n ≡ x → ⊥) → network_of_lem most x ≡ most
  unfolding network_of_lem
  network-none x f =
      whole x
      ∙ first-none (written_as x) below most 0 (omega (arith, length-up_to_lem most (λ (k : ℕ). k)))
      (λ j k. ap (written_as x) (get_or-up_to_lem most j (λ (i : ℕ). i) 0 k) ∙ same_false (decimal j) x (f j k))

  -- ---- by its bytes

  -- the first of some bytes, and the second
  abbrev first : List ℕ → ℕ
  first l = get_or l 0 0

  abbrev second : List ℕ → ℕ
  second l = get_or l 1 0

  -- a number of one digit, and one of two
  module _ (some : 10 ≤ most) (few : most ≤ 100) where
    network-is : (x : List ℕ) (n : ℕ) → n < most → decimal n ≡ x → network_of_lem most x ≡ n
    network-is x n h e = ap (network_of_lem most) (sym e) ∙ network-found few n h

    pub one_found : (a : ℕ) → 48 ≤ a → a ≤ 57 → network_of_lem most (a ∷ []) ≡ a - 48
    one_found a h k =
        network-is (a ∷ []) (a - 48) (omega arith) (decimal-small (a - 48) (omega arith) ∙ ap (λ (n : ℕ). n ∷ []) (let q : a - 48 + 48 ≡ a = omega arith in q))

    pub one_none : (a : ℕ) → (48 ≤ a → a ≤ 57 → ⊥) → network_of_lem most (a ∷ []) ≡ most
    one_none a f = network-none (a ∷ []) (λ n h e. ⊎_elim (low n h e) (high n h e) (low_or_high n))
      where
        low : (n : ℕ) → n < most → decimal n ≡ a ∷ [] → n < 10 → ⊥
        low n h e k = let q = ap first (sym (decimal-small n k) ∙ e) in f (omega arith) (omega arith)

        high : (n : ℕ) → n < most → decimal n ≡ a ∷ [] → 10 ≤ n → ⊥
        high n h e k = omega (arith, ap length (sym (two n k (omega arith)) ∙ e))

    pub two-found : (a b : ℕ) → 49 ≤ a → 48 ≤ b → b ≤ 57 → (a - 48) * 10 + (b - 48) < most → network_of_lem most (a ∷ b ∷ []) ≡ (a - 48) * 10 + (b - 48)
    two-found a b h k m o =
        let n = (a - 48) * 10 + (b - 48) in
        let p : n / 10 + 48 ≡ a = omega arith in
        let q : n % 10 + 48 ≡ b = omega arith in
        network-is (a ∷ b ∷ []) n (omega arith) (two n (omega arith) (omega arith) ∙ ap (λ (x : ℕ). x ∷ (n % 10 + 48) ∷ []) p ∙ ap (λ (y : ℕ). a ∷ y ∷ []) q)

    pub two_none : (a b : ℕ) → (49 ≤ a → 48 ≤ b → b ≤ 57 → (a - 48) * 10 + (b - 48) < most → ⊥) → network_of_lem most (a ∷ b ∷ []) ≡ most
    two_none a b f = network-none (a ∷ b ∷ []) (λ n h e. ⊎_elim (low n h e) (high n h e) (low_or_high n))
      where
        low : (n : ℕ) → n < most → decimal n ≡ a ∷ b ∷ [] → n < 10 → ⊥
        low n h e k = omega (arith, ap length (sym (decimal-small n k) ∙ e))

        high : (n : ℕ) → n < most → decimal n ≡ a ∷ b ∷ [] → 10 ≤ n → ⊥
        high n h e k =
            let w = sym (two n k (omega arith)) ∙ e in
            let p = ap first w in
            let q = ap second w in
            f (omega arith) (omega arith) (omega arith) (omega arith)

    pub length_none : (x : List ℕ) → (length x ≡ 1 → ⊥) → (length x ≡ 2 → ⊥) → network_of_lem most x ≡ most
    length_none x f g =
        network-none x (λ n h e. ⊎_elim (λ (k : n < 10). f (ap length (sym e ∙ decimal-small n k))) (λ (k : 10 ≤ n). g (ap length (sym e ∙ two n k (omega arith)))) (low_or_high n))

  -- ---- what is found

  module _ (x : List ℕ) where
    pub found-network : (n : ℕ) → network_of_lem most x ≡ n → n < most → Some (as_network n) ≡ found_network most x
    unfolding found_network
    found-network n e h = sym (ap (λ (k : ℕ). cond (ltb k most) (Some (as_network k)) None) e ∙ ap (λ (b : Bool). cond b (Some (as_network n)) None) (lt-ltb n most h))

    pub found_none : network_of_lem most x ≡ most → None ≡ found_network most x
    unfolding found_network
    found_none e =
        sym (ap (λ (k : ℕ). cond (ltb k most) (Some (as_network k)) None) e
        ∙ ap (λ (b : Bool). cond b (Some (as_network most)) None) (le-ltb most most (omega arith)))

    -- from what was found
    pub is_found : (n : Network) → Some n ≡ found_network most x → (is_network most x ≡ true) × (n ≡ as_network (network_of_lem most x))
    unfolding found_network
    is_found n e = let p = cond_some (is_network most x) (as_network (network_of_lem most x)) n (sym e) in (p.0, sym p.1)

    pub not_found : None ≡ found_network most x → is_network most x ≡ false
    unfolding found_network
    not_found e = found_nothing Some None (λ a b. same_Some a b) (λ a q. none-some a (sym q)) (is_network most x) (as_network (network_of_lem most x)) e

  -- ---- by how many digits there are

  module _ (some : 10 ≤ most) (few : most ≤ 100) (x : List ℕ) where
    pub one_digit : (n : ℕ) → length x ≡ 1 → 48 ≤ get_or x 0 0 → get_or x 0 0 ≤ 57 → n ≡ get_or x 0 0 - 48 → Some (as_network n) ≡ found_network most x
    one_digit n e h k q =
        found-network x n (ap (network_of_lem most) (of_one x e) ∙ one_found some few (get_or x 0 0) h k ∙ sym q) (omega arith)

    pub two_digits : (n : ℕ) → length x ≡ 2 → 49 ≤ get_or x 0 0 → 48 ≤ get_or x 1 0 → get_or x 1 0 ≤ 57 → n ≡ (get_or x 0 0 - 48) * 10 + (get_or x 1 0 - 48) → n < most
        → Some (as_network n) ≡ found_network most x
    two_digits n e h k l q m =
        found-network x n (ap (network_of_lem most) (of_two x e) ∙ two-found some few (get_or x 0 0) (get_or x 1 0) h k l (omega arith) ∙ sym q) m

  pub no_digits : 10 ≤ most → most ≤ 100 → (x : List ℕ) → (length x ≡ 1 → 48 ≤ get_or x 0 0 → get_or x 0 0 ≤ 57 → ⊥)
      → (length x ≡ 2 → 49 ≤ get_or x 0 0 → 48 ≤ get_or x 1 0 → get_or x 1 0 ≤ 57 → (get_or x 0 0 - 48) * 10 + (get_or x 1 0 - 48) < most → ⊥)
      → None ≡ found_network most x
  no_digits some few [] f g = found_none [] (length_none some few [] (λ e. omega arith) (λ e. omega arith))
  no_digits some few (a ∷ []) f g = found_none (a ∷ []) (one_none some few a (λ h k. f refl h k))
  no_digits some few (a ∷ b ∷ []) f g = found_none (a ∷ b ∷ []) (two_none some few a b (λ h k l m. g refl h k l m))
  no_digits some few (a ∷ b ∷ d ∷ l) f g = found_none (a ∷ b ∷ d ∷ l) (length_none some few (a ∷ b ∷ d ∷ l) (λ e. omega arith) (λ e. omega arith))
