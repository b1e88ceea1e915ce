-- Whether refusal 13 is given for a cell can be told. (These unfold, so that the reading of a text can be computed.)
use Prim.Native.Nat.{ℕ, suc, ◌<◌, max}
use mathlib.Core.Path.{◌≡◌, refl, sym, subst, ap, ◌∙◌}
use mathlib.Core.Bool.{Bool, true, false}
use mathlib.Core.Logic.{◌⊎◌, inl, inr, ⊎_elim}
use mathlib.Core.List.{List, [], ◌∷◌}
use native.Mathlib.Decide.{ℕ_discrete}
use native.Mathlib.Omega.{arith}
use Rattle.rules.specs.Lists.{Some}
use Rattle.rules.specs.Rules.{Trigger, message, event, Outcome, stall, go, Cell, Enters, Carrier, LeadsInto, Taken, Staller, NoEntry}
use Rattle.rules.specs.Walks.{Plus}
use Rattle.rules.proofs.Search.{plus?}

pub some-map : (P Q : Cell → Type 0) → ((c : Cell) → P c → Q c) → (cells : List Cell) → Some P cells → Some Q cells
some-map P Q f [] s = s
some-map P Q f (c ∷ cells) (inl p) = inl (f c p)
some-map P Q f (c ∷ cells) (inr s) = inr (some-map P Q f cells s)

pub some-get : (P : Cell → Type 0) (cells : List Cell) → Some P cells → (c : Cell) × P c × ((Q : Cell → Type 0) → Q c → Some Q cells)
some-get P [] s = absurd s
some-get P (c ∷ cells) (inl p) = (c, p, λ Q q. inl q)
some-get P (c ∷ cells) (inr s) = let r = some-get P cells s in (r.0, r.1, λ Q q. inr (r.2 Q q))

unfoldable pub some? : (P : Cell → Type 0) → ((c : Cell) → Dec (P c)) → (cells : List Cell) → Dec (Some P cells)
some? P d [] = no (λ h. h)
some? P d (c ∷ cells) = pick (d c) (some? P d cells)
  where
    pick : Dec (P c) → Dec (Some P cells) → Dec (P c ⊎ Some P cells)
    pick (yes a) e = yes (inl a)
    pick (no g) (yes b) = yes (inr b)
    pick (no g) (no h) = no (λ s. neither s)
      where
        neither : P c ⊎ Some P cells → ⊥
        neither (inl a) = g a
        neither (inr b) = h b

pub never : {A : Type 0} → ◌≡◌ {A = ℕ} 0 1 → A
never e = absurd (omega arith)

unfoldable pub goes-to? : (o : Outcome) (s : ℕ) → Dec (o ≡ go s)
goes-to? stall s = no (λ e. never (apart e))
  where
    apart : stall ≡ go s → ◌≡◌ {A = ℕ} 0 1
    apart e = cc
goes-to? (go r) s = pick (ℕ_discrete r s)
  where
    same : go r ≡ go s → r ≡ s
    same e = cc

    pick : Dec (r ≡ s) → Dec (go r ≡ go s)
    pick (yes e) = yes (ap {B = Outcome} go e)
    pick (no g) = no (λ e. g (same e))

unfoldable pub is-stall? : (o : Outcome) → Dec (o ≡ stall)
is-stall? stall = yes refl
is-stall? (go s) = no (λ e. never (apart e))
  where
    apart : go s ≡ stall → ◌≡◌ {A = ℕ} 0 1
    apart e = cc

unfoldable pub is-message? : (t : Trigger) → Dec ((b : ℕ) × (t ≡ message b))
is-message? (message m) = yes (m, refl)
is-message? (event e) = no (λ t. never (apart t.0 t.1))
  where
    apart : (b : ℕ) → event e ≡ message b → ◌≡◌ {A = ℕ} 0 1
    apart b q = cc

unfoldable pub enters? : (c : Cell) (s : ℕ) → Dec (Enters c s)
enters? c s = pick (goes-to? c.outcome s) (ℕ_discrete c.state s)
  where
    pick : Dec (c.outcome ≡ go s) → Dec (c.state ≡ s) → Dec (Enters c s)
    pick (yes e) (no d) = yes (e, d)
    pick (yes e) (yes q) = no (λ t. t.1 q)
    pick (no d) q = no (λ t. d t.0)

-- some message is a carrier of the cell
unfoldable pub any-carrier? : (t : Trigger) (sent : List ℕ) → Dec ((a : ℕ) × Carrier t sent a)
any-carrier? (message m) sent = yes (m, refl)
any-carrier? (event e) [] = no (λ t. t.1)
any-carrier? (event e) (b ∷ sent) = yes (b, inl refl)

-- ---- the states that are taken

-- one more than the next state, or 0
abbrev pub past : Outcome → ℕ
past stall = 0
past (go s) = suc s

-- one more than every state number of the cells
unfoldable pub span : List Cell → ℕ
span [] = 0
span (c ∷ cells) = max (max (suc c.state) (past c.outcome)) (span cells)

-- a `go` cell of r into s
abbrev pub GoesInto : ℕ → ℕ → Cell → Type 0
GoesInto r s c = (c.state ≡ r) × (c.outcome ≡ go s)

pub goes-within : (r s : ℕ) (cells : List Cell) → Some (GoesInto r s) cells → (r < span cells) × (s < span cells)
unfolding span
goes-within r s [] t = absurd t
goes-within r s (c ∷ cells) (inl q) = let e = ap past q.1 in (omega (arith, q.0), omega (arith, e))
goes-within r s (c ∷ cells) (inr t) = let u = goes-within r s cells t in (omega (arith, u.0), omega (arith, u.1))

unfoldable pub is-true? : (b : Bool) → Dec (b ≡ true)
is-true? true = yes refl
is-true? false = no (λ e. never (apart e))
  where
    apart : false ≡ true → ◌≡◌ {A = ℕ} 0 1
    apart e = cc

module _ (transient : ℕ → Bool) (cells : List Cell) where
  unfoldable pub goes-into? : (r s : ℕ) (c : Cell) → Dec (GoesInto r s c)
  goes-into? r s c = pick (ℕ_discrete c.state r) (goes-to? c.outcome s)
    where
      pick : Dec (c.state ≡ r) → Dec (c.outcome ≡ go s) → Dec (GoesInto r s c)
      pick (yes e) (yes f) = yes (e, f)
      pick (yes e) (no g) = no (λ t. g t.1)
      pick (no g) d = no (λ t. g t.0)

  unfoldable pub leads-into? : (r s : ℕ) → Dec (LeadsInto transient cells r s)
  leads-into? r s = pick (is-true? (transient r)) (some? (GoesInto r s) (goes-into? r s) cells)
    where
      pick : Dec (transient r ≡ true) → Dec (Some (GoesInto r s) cells) → Dec (LeadsInto transient cells r s)
      pick (yes e) (yes t) = yes (e, t)
      pick (yes e) (no g) = no (λ t. g t.1)
      pick (no g) d = no (λ t. g t.0)

  unfoldable pub taken? : (s r : ℕ) → Dec (Taken transient cells s r)
  taken? s r = pick (ℕ_discrete r s) (plus? (LeadsInto transient cells) leads-into? (span cells) (λ a b t. goes-within a b cells t.1) r s)
    where
      pick : Dec (r ≡ s) → Dec (Plus (LeadsInto transient cells) r s) → Dec (Taken transient cells s r)
      pick (yes e) d = yes (inl e)
      pick (no g) (yes w) = yes (inr w)
      pick (no g) (no h) = no (⊎_elim g h)

  -- the cell enters a state that is taken for s
  abbrev pub EntersTaken : ℕ → Cell → Type 0
  EntersTaken s d = (r : ℕ) × Taken transient cells s r × Enters d r

  unfoldable pub enters-taken? : (s : ℕ) (d : Cell) → Dec (EntersTaken s d)
  enters-taken? s d = into d.outcome refl
    where
      apart : (r : ℕ) → stall ≡ go r → ◌≡◌ {A = ℕ} 0 1
      apart r e = cc

      same : (x r : ℕ) → go x ≡ go r → x ≡ r
      same x r e = cc

      into : (o : Outcome) → d.outcome ≡ o → Dec (EntersTaken s d)
      into stall q = no (λ t. never (apart t.0 (sym q ∙ t.2.0)))
      into (go x) q = pick (taken? s x) (enters? d x)
        where
          pick : Dec (Taken transient cells s x) → Dec (Enters d x) → Dec (EntersTaken s d)
          pick (yes k) (yes o) = yes (x, k, o)
          pick (yes k) (no g) = no (λ t. g (subst (Enters d) (sym (same x t.0 (sym q ∙ t.2.0))) t.2))
          pick (no g) o = no (λ t. g (subst (Taken transient cells s) (sym (same x t.0 (sym q ∙ t.2.0))) t.1))

  -- and a is a carrier of it: so is a staller told
  abbrev pub CarriesTaken : ℕ → ℕ → Cell → Type 0
  CarriesTaken a s d = EntersTaken s d × Carrier d.trigger d.sent a

  pub some-staller : (a s : ℕ) → Some (CarriesTaken a s) cells → Staller transient cells a s
  some-staller a s t =
      let u = some-get (CarriesTaken a s) cells t in
      let o = u.1.0 in
      (o.0, o.1, u.2 (λ d. Enters d o.0 × Carrier d.trigger d.sent a) (o.2, u.1.1))

  pub staller-some : (a s : ℕ) → Staller transient cells a s → Some (CarriesTaken a s) cells
  staller-some a s t = some-map (λ d. Enters d t.0 × Carrier d.trigger d.sent a) (CarriesTaken a s) (λ d q. ((t.0, t.1, q.0), q.1)) cells t.2

  -- the cell enters a state that is taken for s, and has a carrier
  abbrev pub OpensTaken : ℕ → Cell → Type 0
  OpensTaken s d = EntersTaken s d × ((a : ℕ) × Carrier d.trigger d.sent a)

  unfoldable pub opens-taken? : (s : ℕ) (d : Cell) → Dec (OpensTaken s d)
  opens-taken? s d = pick (enters-taken? s d) (any-carrier? d.trigger d.sent)
    where
      pick : Dec (EntersTaken s d) → Dec ((a : ℕ) × Carrier d.trigger d.sent a) → Dec (OpensTaken s d)
      pick (yes e) (yes c) = yes (e, c)
      pick (yes e) (no g) = no (λ t. g t.1)
      pick (no g) c = no (λ t. g t.0)

  -- some message is a staller in s
  unfoldable pub any-staller? : (s : ℕ) → Dec ((a : ℕ) × Staller transient cells a s)
  any-staller? s = pick (some? (OpensTaken s) (opens-taken? s) cells)
    where
      pick : Dec (Some (OpensTaken s) cells) → Dec ((a : ℕ) × Staller transient cells a s)
      pick (yes t) = let u = some-get (OpensTaken s) cells t in yes (u.1.1.0, some-staller u.1.1.0 s (u.2 (CarriesTaken u.1.1.0 s) (u.1.0, u.1.1.1)))
      pick (no g) = no (λ t. g (some-map (CarriesTaken t.0 s) (OpensTaken s) (λ d q. (q.0, (t.0, q.1))) cells (staller-some t.0 s t.1)))

  -- whether refusal 13 is given for the cell
  unfoldable pub no-entry? : (c : Cell) → Dec (NoEntry transient cells c)
  no-entry? c = pick (is-message? c.trigger) (is-stall? c.outcome) (any-staller? c.state)
    where
      pick : Dec ((b : ℕ) × (c.trigger ≡ message b)) → Dec (c.outcome ≡ stall) → Dec ((a : ℕ) × Staller transient cells a c.state) → Dec (NoEntry transient cells c)
      pick (yes x) (yes y) (no g) = yes (x, y, λ a h. g (a, h))
      pick (yes x) (yes y) (yes z) = no (λ t. t.2 z.0 z.1)
      pick (yes x) (no g) z = no (λ t. g t.1)
      pick (no g) y z = no (λ t. g t.0)
