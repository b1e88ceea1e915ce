-- Tables whose numbers are in range are accepted.
use Prim.Native.Nat.{ℕ, ◌<◌}
use mathlib.Core.Path.{◌≡◌, refl, sym, subst}
use mathlib.Core.Bool.{Bool}
use mathlib.Core.Logic.{inl, inr}
use mathlib.Core.List.{List, [], ◌∷◌}
use native.Mathlib.Decide.{ℕ_discrete}
use native.Mathlib.Omega.{arith}
use Rattle.rules.specs.Lists.{◌∈◌, Some}
use Rattle.rules.specs.Rules.{Trigger, message, event, Outcome, stall, go, Cell, Enters, Carrier, Staller, Stalls, of_cells, Trigger-discrete, Outcome-discrete}
use Rattle.rules.specs.Promises.{Accepted}
use Rattle.rules.proofs.Pigeon.{in?}
use Rattle.rules.proofs.Decided.{both?}
use Rattle.rules.proofs.Entry.{some?, some-map, some-get, enters-taken?, CarriesTaken, some-staller, staller-some}

-- the numbers of a cell that stand for messages are numbers of messages
abbrev pub InRange : ℕ → Cell → Type 0
InRange n c = ((m : ℕ) → c.trigger ≡ message m → m < n) × ((b : ℕ) → b ∈ c.sent → b < n)

abbrev pub Every : (Cell → Type 0) → List Cell → Type 0
Every P [] = Unit {0}
Every P (c ∷ cells) = P c × Every P cells

pub some-every : (P Q : Cell → Type 0) (X : Type 0) → ((c : Cell) → P c → Q c → X) → (cells : List Cell) → Some P cells → Every Q cells → X
some-every P Q X f [] s e = absurd s
some-every P Q X f (c ∷ cells) (inl p) e = f c p e.0
some-every P Q X f (c ∷ cells) (inr s) e = some-every P Q X f cells s e.1

is-go? : (o : Outcome) → Dec ((s : ℕ) × (o ≡ go s))
is-go? stall = no (λ t. differs t.0 t.1)
  where
    differs : (s : ℕ) → stall ≡ go s → ⊥
    differs s e = let z : ◌≡◌ {A = ℕ} 0 1 = cc in omega arith
is-go? (go s) = yes (s, refl)

carrier? : (t : Trigger) (sent : List ℕ) (a : ℕ) → Dec (Carrier t sent a)
carrier? (message m) sent a = ℕ_discrete a m
carrier? (event e) sent a = in? a sent

module _ (n : ℕ) (transient : ℕ → Bool) (cells : List Cell) (some : 0 < n) (in-range : Every (InRange n) cells) where
  carrier-range : (t : Trigger) (sent : List ℕ) (a : ℕ) → ((m : ℕ) → t ≡ message m → m < n) → ((b : ℕ) → b ∈ sent → b < n) → Carrier t sent a → a < n
  carrier-range (message m) sent a f g k = rw k (f m refl)
  carrier-range (event e) sent a f g k = g a k

  staller? : (a s : ℕ) → Dec (Staller transient cells a s)
  staller? a s = pick (some? (CarriesTaken transient cells a s) (λ d. both? (enters-taken? transient cells s d) (carrier? d.trigger d.sent a)) cells)
    where
      pick : Dec (Some (CarriesTaken transient cells a s) cells) → Dec (Staller transient cells a s)
      pick (yes t) = yes (some-staller transient cells a s t)
      pick (no g) = no (λ t. g (staller-some transient cells a s t))

  abbrev StallCell : ℕ → ℕ → Cell → Type 0
  StallCell a b c = (c.trigger ≡ message b) × (c.outcome ≡ stall) × Staller transient cells a c.state

  stall-cell? : (a b : ℕ) (c : Cell) → Dec (StallCell a b c)
  stall-cell? a b c = pick (Trigger-discrete ℕ_discrete c.trigger (message b)) (Outcome-discrete ℕ_discrete c.outcome stall) (staller? a c.state)
    where
      pick : Dec (c.trigger ≡ message b) → Dec (c.outcome ≡ stall) → Dec (Staller transient cells a c.state) → Dec (StallCell a b c)
      pick (yes x) (yes y) (yes z) = yes (x, y, z)
      pick (yes x) (yes y) (no g) = no (λ t. g t.2)
      pick (yes x) (no g) z = no (λ t. g t.1)
      pick (no g) y z = no (λ t. g t.0)

  table-stalls? : (a b : ℕ) → Dec (Stalls transient cells a b)
  table-stalls? a b = pick (some? (StallCell a b) (stall-cell? a b) cells)
    where
      pick : Dec (Some (StallCell a b) cells) → Dec (Stalls transient cells a b)
      pick (yes t) = let r = some-get (StallCell a b) cells t in yes (r.0.state, r.2 (λ c. (c.state ≡ r.0.state) × (c.trigger ≡ message b) × (c.outcome ≡ stall)) (refl, r.1.0, r.1.1), r.1.2)
      pick (no g) = no (λ t. g (some-map (λ c. (c.state ≡ t.0) × (c.trigger ≡ message b) × (c.outcome ≡ stall)) (StallCell a b) (λ c q. (q.1, q.2, subst (Staller transient cells a) (sym q.0) t.2)) cells t.1))

  abbrev CauseCell : ℕ → ℕ → Cell → Type 0
  CauseCell a b c = ((s : ℕ) × (c.outcome ≡ go s)) × (c.trigger ≡ message a) × (b ∈ c.sent)

  cause-cell? : (a b : ℕ) (c : Cell) → Dec (CauseCell a b c)
  cause-cell? a b c = pick (is-go? c.outcome) (Trigger-discrete ℕ_discrete c.trigger (message a)) (in? b c.sent)
    where
      pick : Dec ((s : ℕ) × (c.outcome ≡ go s)) → Dec (c.trigger ≡ message a) → Dec (b ∈ c.sent) → Dec (CauseCell a b c)
      pick (yes x) (yes y) (yes z) = yes (x, y, z)
      pick (yes x) (yes y) (no g) = no (λ t. g t.2)
      pick (yes x) (no g) z = no (λ t. g t.1)
      pick (no g) y z = no (λ t. g t.0)

  pub tables-accepted : Accepted (of_cells transient cells n)
  tables-accepted = record {
    some_message = some;
    causes_messages = λ a b t. some-every (CauseCell a b) (InRange n) ((a < n) × (b < n)) (λ c q r. (r.0 a q.1, r.1 b q.2)) cells t in-range;
    stalls_messages = λ a b t. (
      some-every (λ d. Enters d t.2.0 × Carrier d.trigger d.sent a) (InRange n) (a < n) (λ d q r. carrier-range d.trigger d.sent a r.0 r.1 q.1) cells t.2.2 in-range,
      some-every (λ c. (c.state ≡ t.0) × (c.trigger ≡ message b) × (c.outcome ≡ stall)) (InRange n) (b < n) (λ c q r. r.0 b q.1) cells t.1 in-range,
    );
    causes? = λ a b. some? (CauseCell a b) (cause-cell? a b) cells;
    stalls? = table-stalls?;
  }
