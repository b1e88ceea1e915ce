-- The order of the rows with one middle message makes no difference: whether a row holds it does not change while other rows take in the
-- row of the middle message, and that row does not change itself.
use Prim.Native.Nat.{ℕ, zero, suc, ◌+◌, ◌<◌}
use mathlib.Core.Path.{◌≡◌, refl, sym, subst, ap, ap₂, ◌∙◌}
use mathlib.Core.Logic.{◌⊎◌, inl, inr, ◌≢◌, ◌↔◌}
use mathlib.Core.List.{List, [], ◌∷◌}
use native.Mathlib.Decide.{ℕ_discrete}
use native.Mathlib.Omega.{arith}
use lib.Bits.{bit_or, or_self}
use lib.ListN.{get_or, set}
use lib.Seq.{set-get_or, get_or-set_other}
use Rattle.rules.specs.Lists.{◌∈◌, Distinct, up_to}
use Rattle.rows.specs.Rows.{Bit}
use Rattle.rows.specs.Joins.{Moment, joining, turn, turns, in_order_lem, RowsInAnyOrder}
use Rattle.rows.proofs.Bits.{bit?}
use Rattle.rows.proofs.closure.Joining.{turn-yes, turn-no}

-- ---- two rows

set_comm : (l : List ℕ) (i j a b : ℕ) → i ≢ j → set (set l i a) j b ≡ set (set l j b) i a
set_comm [] i j a b g = refl
set_comm (x ∷ l) zero zero a b g = absurd (g refl)
set_comm (x ∷ l) zero (suc j) a b g = refl
set_comm (x ∷ l) (suc i) zero a b g = refl
set_comm (x ∷ l) (suc i) (suc j) a b g = ap (λ (t : List ℕ). x ∷ t) (set_comm l i j a b (λ e. g (ap suc e)))

module _ (k : ℕ) where
  -- another row is as it was
  other-kept : (i j : ℕ) (m : Moment) → i ≢ j → get_or (joining k j m).rows i 0 ≡ get_or m.rows i 0
  other-kept i j m g = get_or-set_other m.rows j i _ 0 g

  -- and so is the row of the middle message, even after its own turn
  middle-kept : (j : ℕ) (m : Moment) → get_or (joining k j m).rows k 0 ≡ get_or m.rows k 0
  middle-kept j m = go (ℕ_discrete k j)
    where
      go : Dec (k ≡ j) → get_or (joining k j m).rows k 0 ≡ get_or m.rows k 0
      go (no g) = other-kept k j m g
      go (yes e) =
          subst (λ (x : ℕ). get_or (joining k x m).rows k 0 ≡ get_or m.rows k 0) e
          (ap (λ (l : List ℕ). get_or l k 0) (ap (set m.rows k) (or_self (get_or m.rows k 0)) ∙ set-get_or m.rows k 0))

  joining-comm : (i j : ℕ) (m : Moment) → i ≢ j → joining k i (joining k j m) ≡ joining k j (joining k i m)
  joining-comm i j m g =
      ap (λ (l : List ℕ). made l (m.joins + 1 + 1)) (
      ap (λ (r : ℕ). set (joining k j m).rows i r) (ap₂ bit_or (other-kept i j m g) (middle-kept j m))
      ∙ set_comm m.rows j i _ _ (λ e. g (sym e))
      ∙ sym (ap (λ (r : ℕ). set (joining k i m).rows j r) (ap₂ bit_or (other-kept j i m (λ e. g (sym e))) (middle-kept i m)))
      )
    where
      made : List ℕ → ℕ → Moment
      made l c = record { rows = l; joins = c }

  still : (i j : ℕ) (m : Moment) → i ≢ j → Bit (get_or m.rows i 0) k ↔ Bit (get_or (joining k j m).rows i 0) k
  still i j m g = rw (other-kept i j m g) (λ b. b, λ b. b)

  pub turn-comm : (i j : ℕ) (m : Moment) → turn k i (turn k j m) ≡ turn k j (turn k i m)
  turn-comm i j m = same (ℕ_discrete i j)
    where
      go : i ≢ j → Dec (Bit (get_or m.rows i 0) k) → Dec (Bit (get_or m.rows j 0) k) → turn k i (turn k j m) ≡ turn k j (turn k i m)
      go g (yes a) (yes b) =
          ap (turn k i) (turn-yes k j m b) ∙ turn-yes k i (joining k j m) ((still i j m g).0 a)
          ∙ joining-comm i j m g
          ∙ sym (ap (turn k j) (turn-yes k i m a) ∙ turn-yes k j (joining k i m) ((still j i m (λ e. g (sym e))).0 b))
      go g (yes a) (no b) =
          ap (turn k i) (turn-no k j m b) ∙ turn-yes k i m a
          ∙ sym (ap (turn k j) (turn-yes k i m a) ∙ turn-no k j (joining k i m) (λ x. b ((still j i m (λ e. g (sym e))).1 x)))
      go g (no a) (yes b) =
          ap (turn k i) (turn-yes k j m b) ∙ turn-no k i (joining k j m) (λ x. a ((still i j m g).1 x))
          ∙ sym (ap (turn k j) (turn-no k i m a) ∙ turn-yes k j m b)
      go g (no a) (no b) = ap (turn k i) (turn-no k j m b) ∙ turn-no k i m a ∙ sym (ap (turn k j) (turn-no k i m a) ∙ turn-no k j m b)

      same : Dec (i ≡ j) → turn k i (turn k j m) ≡ turn k j (turn k i m)
      same (yes e) = subst (λ (x : ℕ). turn k i (turn k x m) ≡ turn k x (turn k i m)) e refl
      same (no g) = go g (bit? (get_or m.rows i 0) k) (bit? (get_or m.rows j 0) k)

-- ---- lists of rows

-- x, of the different numbers of a list, may come first, and the others after it
record Leading (x : ℕ) (l : List ℕ) : Type 0 where
  others : List ℕ
  distinct : Distinct others
  same : (z : ℕ) → (z ∈ others) ↔ ((z ∈ l) × (z ≢ x))
  turned : (k : ℕ) (m : Moment) → turns k l m ≡ turns k others (turn k x m)

leading : (x : ℕ) (l : List ℕ) → Distinct l → x ∈ l → Leading x l
leading x [] d h = absurd h
leading x (y ∷ l) d (inl e) = record {
  others = l;
  distinct = d.1;
  same = λ z. (λ i. (inr i, λ q. d.0 (subst (λ (v : ℕ). v ∈ l) (q ∙ e) i)), λ t. go z t.0 t.1);
  turned = λ k m. ap (λ (v : ℕ). turns k l (turn k v m)) (sym e);
}
  where
    go : (z : ℕ) → (z ≡ y) ⊎ (z ∈ l) → z ≢ x → z ∈ l
    go z (inl q) g = absurd (g (q ∙ sym e))
    go z (inr i) g = i
leading x (y ∷ l) d (inr h) = go (leading x l d.1 h)
  where
    go : Leading x l → Leading x (y ∷ l)
    go b = record {
      others = y ∷ b.others;
      distinct = (λ i. d.0 ((b.same y).0 i).0, b.distinct);
      same = λ z. (there z, λ t. back z t.0 t.1);
      turned = λ k m. b.turned k (turn k y m) ∙ ap (turns k b.others) (turn-comm k x y m);
    }
      where
        there : (z : ℕ) → (z ≡ y) ⊎ (z ∈ b.others) → ((z ≡ y) ⊎ (z ∈ l)) × (z ≢ x)
        there z (inl q) = (inl q, λ e. d.0 (subst (λ (v : ℕ). v ∈ l) (sym e ∙ q) h))
        there z (inr i) = (inr ((b.same z).0 i).0, ((b.same z).0 i).1)

        back : (z : ℕ) → (z ≡ y) ⊎ (z ∈ l) → z ≢ x → (z ≡ y) ⊎ (z ∈ b.others)
        back z (inl q) g = inl q
        back z (inr i) g = inr ((b.same z).1 (i, g))

-- two lists of the same numbers, each of them once
same-turns : (k : ℕ) (l r : List ℕ) (m : Moment) → Distinct l → Distinct r → ((i : ℕ) → (i ∈ l) ↔ (i ∈ r)) → turns k l m ≡ turns k r m
same-turns k [] [] m dl dr f = refl
same-turns k [] (y ∷ r) m dl dr f = absurd ((f y).1 (inl refl))
same-turns k (x ∷ l) r m dl dr f = go (λ s. same-turns k l s) (leading x r dr ((f x).0 (inl refl)))
  where
    go : ((s : List ℕ) (m : Moment) → Distinct l → Distinct s → ((i : ℕ) → (i ∈ l) ↔ (i ∈ s)) → turns k l m ≡ turns k s m) → Leading x r → turns k (x ∷ l) m ≡ turns k r m
    go ih b = ih b.others (turn k x m) dl.1 b.distinct (λ i. (there i, back i)) ∙ sym (b.turned k m)
      where
        there : (i : ℕ) → i ∈ l → i ∈ b.others
        there i h = (b.same i).1 ((f i).0 (inr h), λ e. dl.0 (subst (λ (z : ℕ). z ∈ l) e h))

        back : (i : ℕ) → i ∈ b.others → i ∈ l
        back i h = let t = (b.same i).0 h in pick ((f i).1 t.0) t.1
          where
            pick : (i ≡ x) ⊎ (i ∈ l) → i ≢ x → i ∈ l
            pick (inl e) g = absurd (g e)
            pick (inr j) g = j

-- ---- the numbers below n

up_in : (n x i : ℕ) (f : ℕ → ℕ) → i < n → f i ≡ x → x ∈ up_to n f
up_in zero x i f h e = absurd (omega arith)
up_in (suc n) x zero f h e = inl (sym e)
up_in (suc n) x (suc i) f h e = inr (up_in n x i (λ k. f (suc k)) (omega arith) e)

in-up : (n x : ℕ) (f : ℕ → ℕ) → x ∈ up_to n f → (i : ℕ) × (i < n) × (f i ≡ x)
in-up zero x f h = absurd h
in-up (suc n) x f (inl e) = (0, omega arith, sym e)
in-up (suc n) x f (inr h) = let t = in-up n x (λ k. f (suc k)) h in (suc t.0, omega (arith, t.1), t.2)

up-distinct : (n : ℕ) (f : ℕ → ℕ) → ((i j : ℕ) → f i ≡ f j → i ≡ j) → Distinct (up_to n f)
up-distinct zero f g = tt
up-distinct (suc n) f g = (
  λ h. let t = in-up n (f 0) (λ k. f (suc k)) h in absurd (omega (arith, g (suc t.0) 0 t.2)),
  up-distinct n (λ k. f (suc k)) (λ i j e. omega (arith, g (suc i) (suc j) e)),
)

pub rows-in-any-order : RowsInAnyOrder
rows-in-any-order n k order m d f =
    same-turns k order (in_order_lem n) m d (up-distinct n (λ i. i) (λ i j e. e))
    (λ i. (λ h. up_in n i i (λ j. j) ((f i).0 h) refl, λ h. (f i).1 (let t = in-up n i (λ j. j) h in subst (λ (z : ℕ). z < n) t.2 t.1)))
