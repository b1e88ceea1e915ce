-- The fourteen cases of the proved table, by one computed test.
use Prim.Native.Nat.{ℕ, ◌<◌}
use mathlib.Core.Path.{◌≡◌, refl, sym, subst, ap, ◌∙◌}
use mathlib.Core.Logic.{inl, inr, ⊎_elim}
use mathlib.Core.Bool.{Bool, true, false, not, ◌&&◌, ◌||◌}
use mathlib.Core.List.{List, [], ◌∷◌, ◌++◌}
use native.Mathlib.Omega.{arith}
use lib.Dec.{T, eqb, ltb}
use lib.ListN.{length}
use Rattle.rules.specs.Lists.{◌∈◌, Some}
use Rattle.rules.specs.Rules.{Relations, Mapping, Waits, Step, Trigger, message, event, Outcome, stall, go, Cell, Causes, Enters, Carrier, LeadsInto, Taken, Staller, Stalls, StallsDirectly}
use Rattle.rules.specs.Plan.{Word, waits, queues, Says}
use Rattle.rules.specs.Promises.{Accepted}
use Rattle.rule_cases.specs.Cases.{Given, relations, tables, directly, listed, relations_of, AmongPairs, CaseAnswer, networks, cycle, fit, unfit, map_of, Worded, WordsAlong, Right, Case, AllRight, cases, more_cases}
use Rattle.rules.proofs.Decided.{waits-within, step-within}
use Rattle.rules.proofs.Entry.{some-get, some-map, span, GoesInto, goes-within, EntersTaken, CarriesTaken, some-staller, staller-some}
use Rattle.rules.proofs.Stricter.{old-pairs-remain}
use Rattle.rules.proofs.Given.{InRange, Every, tables-accepted}
use Rattle.rule_cases.proofs.Tests.{Tells, and-tells, or-tells, not-tells, eqb_tells, ltb-tells, inb, in-tells, at, rounds}
use Rattle.rule_cases.proofs.Model.{rows_of, rows_tell, closure-tell, waits_rows, waits-tell, planb, plan-sound, stepb, step-tell, fitb, fit-sound, shownb, shown-sound, both}

dec-of : {P : Type 0} (b : Bool) → Tells b P → Dec P
dec-of true f = yes (f.0 tt)
dec-of false f = no (λ p. f.1 p)

-- ---- pairs

abbrev listedb : List (ℕ × ℕ) → ℕ → ℕ → Bool
listedb [] a b = false
listedb (q ∷ l) a b = (eqb a q.0 && eqb b q.1) || listedb l a b

listed-tells : (l : List (ℕ × ℕ)) (a b : ℕ) → Tells (listedb l a b) (AmongPairs l a b)
listed-tells [] a b = (λ t. t, λ t. t)
listed-tells (q ∷ l) a b = or-tells (eqb a q.0 && eqb b q.1) (listedb l a b) (and-tells (eqb a q.0) (eqb b q.1) (eqb_tells a q.0) (eqb_tells b q.1)) (listed-tells l a b)

abbrev smallb : ℕ → List (ℕ × ℕ) → Bool
smallb n [] = true
smallb n (q ∷ l) = ltb q.0 n && ltb q.1 n && smallb n l

listed_small : (n : ℕ) (l : List (ℕ × ℕ)) → T (smallb n l) → (a b : ℕ) → AmongPairs l a b → (a < n) × (b < n)
listed_small n [] t a b h = absurd h
listed_small n (q ∷ l) t a b (inl e) =
    let u = both (ltb q.0 n) (ltb q.1 n) (both (ltb q.0 n && ltb q.1 n) (smallb n l) t).0 in
    (rw e.0 ((ltb-tells q.0 n).0 u.0), rw e.1 ((ltb-tells q.1 n).0 u.1))
listed_small n (q ∷ l) t a b (inr h) = listed_small n l (both (ltb q.0 n && ltb q.1 n) (smallb n l) t).1 a b h

-- ---- cells

abbrev someb : (Cell → Bool) → List Cell → Bool
someb f [] = false
someb f (c ∷ cells) = f c || someb f cells

some-tells : (P : Cell → Type 0) (f : Cell → Bool) → ((c : Cell) → Tells (f c) (P c)) → (cells : List Cell) → Tells (someb f cells) (Some P cells)
some-tells P f tells [] = (λ t. t, λ t. t)
some-tells P f tells (c ∷ cells) = or-tells (f c) (someb f cells) (tells c) (some-tells P f tells cells)

abbrev goes : Outcome → Bool
goes stall = false
goes (go s) = true

abbrev goes_to : Outcome → ℕ → Bool
goes_to stall s = false
goes_to (go r) s = eqb r s

abbrev triggered : Trigger → ℕ → Bool
triggered (message m) a = eqb m a
triggered (event e) a = false

abbrev carrierb : Trigger → List ℕ → ℕ → Bool
carrierb (message m) sent a = eqb a m
carrierb (event e) sent a = inb a sent

⊥-of : {A : Type 0} → ◌≡◌ {A = ℕ} 0 1 → A
⊥-of e = absurd (omega arith)

no-stall : (s : ℕ) → stall ≡ go s → ◌≡◌ {A = ℕ} 0 1
no-stall s e = cc

no-event : (e a : ℕ) → event e ≡ message a → ◌≡◌ {A = ℕ} 0 1
no-event e a q = cc

same-go : (r s : ℕ) → go r ≡ go s → r ≡ s
same-go r s e = cc

same-message : (m a : ℕ) → message m ≡ message a → m ≡ a
same-message m a e = cc

goes-tells : (o : Outcome) → Tells (goes o) ((s : ℕ) × (o ≡ go s))
goes-tells stall = (λ t. absurd t, λ q. ⊥-of (no-stall q.0 q.1))
goes-tells (go s) = (λ t. (s, refl), λ q. tt)

stays-tells : (o : Outcome) → Tells (not (goes o)) (o ≡ stall)
stays-tells stall = (λ t. refl, λ q. tt)
stays-tells (go s) = (λ t. absurd t, λ q. ⊥-of (no-stall s (sym q)))

goes_to-tells : (o : Outcome) (s : ℕ) → Tells (goes_to o s) (o ≡ go s)
goes_to-tells stall s = (λ t. absurd t, λ q. ⊥-of (no-stall s q))
goes_to-tells (go r) s = (λ t. ap {B = Outcome} go ((eqb_tells r s).0 t), λ q. (eqb_tells r s).1 (same-go r s q))

triggered-tells : (t : Trigger) (a : ℕ) → Tells (triggered t a) (t ≡ message a)
triggered-tells (message m) a = (λ t. ap {B = Trigger} message ((eqb_tells m a).0 t), λ q. (eqb_tells m a).1 (same-message m a q))
triggered-tells (event e) a = (λ t. absurd t, λ q. ⊥-of (no-event e a q))

carrier-tells : (t : Trigger) (sent : List ℕ) (a : ℕ) → Tells (carrierb t sent a) (Carrier t sent a)
carrier-tells (message m) sent a = eqb_tells a m
carrier-tells (event e) sent a = in-tells a sent

abbrev causeb : ℕ → ℕ → Cell → Bool
causeb a b c = goes c.outcome && (triggered c.trigger a && inb b c.sent)

abbrev causesb : List Cell → ℕ → ℕ → Bool
causesb cells a b = someb (causeb a b) cells

causes-tell : (cells : List Cell) (a b : ℕ) → Tells (causesb cells a b) (Causes cells a b)
causes-tell cells a b = some-tells (λ c. ((s : ℕ) × (c.outcome ≡ go s)) × (c.trigger ≡ message a) × (b ∈ c.sent)) (causeb a b) one cells
  where
    one : (c : Cell) → Tells (causeb a b c) (((s : ℕ) × (c.outcome ≡ go s)) × (c.trigger ≡ message a) × (b ∈ c.sent))
    one c =
        let r = and-tells (goes c.outcome) (triggered c.trigger a && inb b c.sent) (goes-tells c.outcome) (and-tells (triggered c.trigger a) (inb b c.sent) (triggered-tells c.trigger a) (in-tells b c.sent)) in
        (λ t. let q = r.0 t in (q.0, q.1.0, q.1.1), λ q. r.1 (q.0, (q.1, q.2)))

abbrev enterb : ℕ → ℕ → Cell → Bool
enterb a s d = (goes_to d.outcome s && not (eqb d.state s)) && carrierb d.trigger d.sent a

enter-tells : (a s : ℕ) (d : Cell) → Tells (enterb a s d) (Enters d s × Carrier d.trigger d.sent a)
enter-tells a s d =
    and-tells (goes_to d.outcome s && not (eqb d.state s)) (carrierb d.trigger d.sent a)
    (and-tells (goes_to d.outcome s) (not (eqb d.state s)) (goes_to-tells d.outcome s) (not-tells (eqb d.state s) (eqb_tells d.state s)))
    (carrier-tells d.trigger d.sent a)

abbrev directb : List Cell → ℕ → ℕ → Cell → Bool
directb cells a b c = (triggered c.trigger b && not (goes c.outcome)) && someb (enterb a c.state) cells

abbrev directsb : List Cell → ℕ → ℕ → Bool
directsb cells a b = someb (directb cells a b) cells

directs-tell : (cells : List Cell) (a b : ℕ) → Tells (directsb cells a b) (StallsDirectly cells a b)
directs-tell cells a b = (there, back)
  where
    Carries : ℕ → Type 0
    Carries s = Some (λ d. Enters d s × Carrier d.trigger d.sent a) cells

    One : Cell → Type 0
    One c = ((c.trigger ≡ message b) × (c.outcome ≡ stall)) × Carries c.state

    r : Tells (directsb cells a b) (Some One cells)
    r = some-tells One (directb cells a b) (λ c. and-tells (triggered c.trigger b && not (goes c.outcome)) (someb (enterb a c.state) cells) (and-tells (triggered c.trigger b) (not (goes c.outcome)) (triggered-tells c.trigger b) (stays-tells c.outcome)) (some-tells (λ d. Enters d c.state × Carrier d.trigger d.sent a) (enterb a c.state) (enter-tells a c.state) cells)) cells

    there : T (directsb cells a b) → StallsDirectly cells a b
    there t = let q = some-get One cells (r.0 t) in (q.0.state, q.2 (λ c. (c.state ≡ q.0.state) × (c.trigger ≡ message b) × (c.outcome ≡ stall)) (refl, q.1.0.0, q.1.0.1), q.1.1)

    back : StallsDirectly cells a b → T (directsb cells a b)
    back u = r.1 (some-map (λ c. (c.state ≡ u.0) × (c.trigger ≡ message b) × (c.outcome ≡ stall)) One (λ c q. ((q.1, q.2), subst Carries (sym q.0) u.2)) cells u.1)

-- ---- the states that are taken

module _ (transient : ℕ → Bool) (cells : List Cell) where
  abbrev leadb : ℕ → ℕ → Cell → Bool
  leadb r s c = eqb c.state r && goes_to c.outcome s

  abbrev leadsb : ℕ → ℕ → Bool
  leadsb r s = transient r && someb (leadb r s) cells

  true-tells : (b : Bool) → Tells b (b ≡ true)
  true-tells true = (λ t. refl, λ e. tt)
  true-tells false = (λ t. absurd t, λ e. ⊥-of (apart e))
    where
      apart : false ≡ true → ◌≡◌ {A = ℕ} 0 1
      apart e = cc

  leads-tell : (r s : ℕ) → Tells (leadsb r s) (LeadsInto transient cells r s)
  leads-tell r s =
      and-tells (transient r) (someb (leadb r s) cells) (true-tells (transient r))
      (some-tells (GoesInto r s) (leadb r s) (λ c. and-tells (eqb c.state r) (goes_to c.outcome s) (eqb_tells c.state r) (goes_to-tells c.outcome s)) cells)

  abbrev closed_rows : List (List Bool)
  closed_rows = rounds (span cells) (rows_of (span cells) leadsb)

  abbrev takenb : ℕ → ℕ → Bool
  takenb s r = eqb r s || at closed_rows r s

  taken-tells : (s r : ℕ) → Tells (takenb s r) (Taken transient cells s r)
  taken-tells s r =
      or-tells (eqb r s) (at closed_rows r s) (eqb_tells r s)
      (closure-tell (span cells) (LeadsInto transient cells) (λ a b t. goes-within a b cells t.1) leadsb (λ a b _ _. leads-tell a b) r s)

  -- the cell, whose outcome it is, enters a taken state
  abbrev intob : ℕ → ℕ → Outcome → Bool
  intob s own stall = false
  intob s own (go r) = takenb s r && not (eqb own r)

  into-tells : (s : ℕ) (d : Cell) → Tells (intob s d.state d.outcome) (EntersTaken transient cells s d)
  into-tells s d = pick d.outcome refl
    where
      pick : (o : Outcome) → d.outcome ≡ o → Tells (intob s d.state o) (EntersTaken transient cells s d)
      pick stall q = (λ t. absurd t, λ t. ⊥-of (no-stall t.0 (sym q ∙ t.2.0)))
      pick (go x) q =
          let r = and-tells (takenb s x) (not (eqb d.state x)) (taken-tells s x) (not-tells (eqb d.state x) (eqb_tells d.state x)) in (
            λ t. let u = r.0 t in (x, u.0, (q, u.1)),
            λ t. let e = same-go x t.0 (sym q ∙ t.2.0) in
                r.1 (subst (Taken transient cells s) (sym e) t.1, λ f. t.2.1 (f ∙ e)),
          )

  abbrev carryb : ℕ → ℕ → Cell → Bool
  carryb a s d = intob s d.state d.outcome && carrierb d.trigger d.sent a

  carry-tells : (a s : ℕ) → Tells (someb (carryb a s) cells) (Staller transient cells a s)
  carry-tells a s =
      let r = some-tells (CarriesTaken transient cells a s) (carryb a s) (λ d. and-tells (intob s d.state d.outcome) (carrierb d.trigger d.sent a) (into-tells s d) (carrier-tells d.trigger d.sent a)) cells in
      (λ t. some-staller transient cells a s (r.0 t), λ t. r.1 (staller-some transient cells a s t))

  abbrev stallb : ℕ → ℕ → Cell → Bool
  stallb a b c = (triggered c.trigger b && not (goes c.outcome)) && someb (carryb a c.state) cells

  abbrev stallsb : ℕ → ℕ → Bool
  stallsb a b = someb (stallb a b) cells

  stalls-tell : (a b : ℕ) → Tells (stallsb a b) (Stalls transient cells a b)
  stalls-tell a b = (there, back)
    where
      One : Cell → Type 0
      One c = ((c.trigger ≡ message b) × (c.outcome ≡ stall)) × Staller transient cells a c.state

      r : Tells (stallsb a b) (Some One cells)
      r = some-tells One (stallb a b) (λ c. and-tells (triggered c.trigger b && not (goes c.outcome)) (someb (carryb a c.state) cells) (and-tells (triggered c.trigger b) (not (goes c.outcome)) (triggered-tells c.trigger b) (stays-tells c.outcome)) (carry-tells a c.state)) cells

      there : T (stallsb a b) → Stalls transient cells a b
      there t = let q = some-get One cells (r.0 t) in (q.0.state, q.2 (λ c. (c.state ≡ q.0.state) × (c.trigger ≡ message b) × (c.outcome ≡ stall)) (refl, q.1.0.0, q.1.0.1), q.1.1)

      back : Stalls transient cells a b → T (stallsb a b)
      back u = r.1 (some-map (λ c. (c.state ≡ u.0) × (c.trigger ≡ message b) × (c.outcome ≡ stall)) One (λ c q. ((q.1, q.2), subst (Staller transient cells a) (sym q.0) u.2)) cells u.1)

abbrev sentb : ℕ → List ℕ → Bool
sentb n [] = true
sentb n (b ∷ l) = ltb b n && sentb n l

abbrev triggerb : ℕ → Trigger → Bool
triggerb n (message m) = ltb m n
triggerb n (event e) = true

abbrev rangeb : ℕ → List Cell → Bool
rangeb n [] = true
rangeb n (c ∷ cells) = (triggerb n c.trigger && sentb n c.sent) && rangeb n cells

sent-range : (n : ℕ) (l : List ℕ) → T (sentb n l) → (b : ℕ) → b ∈ l → b < n
sent-range n [] t b h = absurd h
sent-range n (x ∷ l) t b (inl e) = rw e ((ltb-tells x n).0 (both (ltb x n) (sentb n l) t).0)
sent-range n (x ∷ l) t b (inr h) = sent-range n l (both (ltb x n) (sentb n l) t).1 b h

trigger-range : (n : ℕ) (t : Trigger) → T (triggerb n t) → (m : ℕ) → t ≡ message m → m < n
trigger-range n (message k) t m e = rw (← (same-message k m e)) ((ltb-tells k n).0 t)
trigger-range n (event k) t m e = ⊥-of (no-event k m e)

range-every : (n : ℕ) (cells : List Cell) → T (rangeb n cells) → Every (InRange n) cells
range-every n [] t = tt
range-every n (c ∷ cells) t =
    let u = both (triggerb n c.trigger && sentb n c.sent) (rangeb n cells) t in
    let v = both (triggerb n c.trigger) (sentb n c.sent) u.0 in
    ((trigger-range n c.trigger v.0, sent-range n c.sent v.1), range-every n cells u.1)

-- ---- what is given

abbrev cb : Given → ℕ → ℕ → Bool
cb (relations n causes stalls) = listedb causes
cb (tables n transient cells) = causesb cells
cb (directly n cells) = causesb cells

abbrev sb : Given → ℕ → ℕ → Bool
sb (relations n causes stalls) = listedb stalls
sb (tables n transient cells) = stallsb (listed transient) cells
sb (directly n cells) = directsb cells

abbrev okb : Given → Bool
okb (relations n causes stalls) = ltb 0 n && (smallb n causes && smallb n stalls)
okb (tables n transient cells) = ltb 0 n && rangeb n cells
okb (directly n cells) = ltb 0 n && rangeb n cells

cb-tells : (g : Given) (a b : ℕ) → Tells (cb g a b) ((relations_of g).causes a b)
cb-tells (relations n causes stalls) = listed-tells causes
cb-tells (tables n transient cells) = causes-tell cells
cb-tells (directly n cells) = causes-tell cells

sb-tells : (g : Given) (a b : ℕ) → Tells (sb g a b) ((relations_of g).stalls a b)
sb-tells (relations n causes stalls) = listed-tells stalls
sb-tells (tables n transient cells) = stalls-tell (listed transient) cells
sb-tells (directly n cells) = directs-tell cells

accepted : (g : Given) → T (okb g) → Accepted (relations_of g)
accepted (relations n causes stalls) t =
    let u = both (ltb 0 n) (smallb n causes && smallb n stalls) t in
    let v = both (smallb n causes) (smallb n stalls) u.1 in
    record {
      some_message = (ltb-tells 0 n).0 u.0;
      causes_messages = listed_small n causes v.0;
      stalls_messages = listed_small n stalls v.1;
      causes? = λ a b. dec-of (listedb causes a b) (listed-tells causes a b);
      stalls? = λ a b. dec-of (listedb stalls a b) (listed-tells stalls a b);
    }
accepted (tables n transient cells) t = let u = both (ltb 0 n) (rangeb n cells) t in tables-accepted n (listed transient) cells ((ltb-tells 0 n).0 u.0) (range-every n cells u.1)
accepted (directly n cells) t =
    let u = both (ltb 0 n) (rangeb n cells) t in
    let acc = tables-accepted n (listed []) cells ((ltb-tells 0 n).0 u.0) (range-every n cells u.1) in
    record {
      some_message = acc.some_message;
      causes_messages = acc.causes_messages;
      stalls_messages = λ a b q. acc.stalls_messages a b ((old-pairs-remain (listed []) cells n).more_stalls a b q);
      causes? = acc.causes?;
      stalls? = λ a b. dec-of (directsb cells a b) (directs-tell cells a b);
    }

-- ---- the answer

-- `s` tells the steps, `w` the waits steps.
abbrev wordb : (ℕ → ℕ → Bool) → (ℕ → ℕ → Bool) → ℕ → Word → ℕ → Bool
wordb s w m waits k = w m k
wordb s w m queues k = not (w m k) && s m k

abbrev wordedb : (ℕ → ℕ → Bool) → (ℕ → ℕ → Bool) → ℕ → List ℕ → List Word → Bool
wordedb s w m [] [] = true
wordedb s w m [] (v ∷ vs) = false
wordedb s w m (k ∷ l) [] = false
wordedb s w m (k ∷ l) (v ∷ vs) = wordb s w m v k && wordedb s w k l vs

abbrev wordsb : (ℕ → ℕ → Bool) → (ℕ → ℕ → Bool) → List ℕ → List Word → Bool
wordsb s w [] vs = false
wordsb s w (m ∷ l) vs = wordedb s w m (l ++ m ∷ []) vs

abbrev step_rows : ℕ → (ℕ → ℕ → Bool) → (ℕ → ℕ → Bool) → Mapping → List (List Bool)
step_rows n s w φ = rows_of n (stepb n s w φ)

abbrev answerb : ℕ → (ℕ → ℕ → Bool) → (ℕ → ℕ → Bool) → CaseAnswer → Bool
answerb n s w (networks k l) = eqb (length l) n && planb n w (map_of l) k
answerb n s w (cycle ms) = shownb n w w ms
answerb n s w (fit l) = let rows = rounds n (step_rows n s w (map_of l)) in eqb (length l) n && fitb n w (at rows)
answerb n s w (unfit l ms vs) = let rows = step_rows n s w (map_of l) in eqb (length l) n && (shownb n w (at rows) ms && wordsb (at rows) w ms vs)

module _ (p : Relations) (acc : Accepted p) (s w : ℕ → ℕ → Bool) (s-tells : (a b : ℕ) → Tells (s a b) (p.stalls a b)) (w-tells : (a b : ℕ) → Tells (w a b) (Waits p a b)) where
  module _ (φ : Mapping) (steps : ℕ → ℕ → Bool) (step-tells : (a b : ℕ) → Tells (steps a b) (Step p φ a b)) where
    word_sound : (m : ℕ) (v : Word) (k : ℕ) → T (wordb steps w m v k) → Says p φ m v k
    word_sound m waits k t = (w-tells m k).0 t
    word_sound m queues k t =
        let u = both (not (w m k)) (steps m k) t in
        let g : ¬ Waits p m k = (not-tells (w m k) (w-tells m k)).0 u.0 in
        (g, ⊎_elim (λ x. absurd (g x)) (λ q. q) ((step-tells m k).0 u.1))

    worded-sound : (m : ℕ) (l : List ℕ) (vs : List Word) → T (wordedb steps w m l vs) → Worded p φ m l vs
    worded-sound m [] [] t = tt
    worded-sound m [] (v ∷ vs) t = t
    worded-sound m (k ∷ l) [] t = t
    worded-sound m (k ∷ l) (v ∷ vs) t = let u = both (wordb steps w m v k) (wordedb steps w k l vs) t in (word_sound m v k u.0, worded-sound k l vs u.1)

    words-sound : (ms : List ℕ) (vs : List Word) → T (wordsb steps w ms vs) → WordsAlong p φ ms vs
    words-sound [] vs t = t
    words-sound (m ∷ l) vs t = worded-sound m (l ++ m ∷ []) vs t

  answer-sound : (a : CaseAnswer) → T (answerb p.count s w a) → Right p a
  answer-sound (networks k l) t =
      let u = both (eqb (length l) p.count) (planb p.count w (map_of l) k) t in
      let v = plan-sound p acc w w-tells (map_of l) k u.1 in
      ((eqb_tells (length l) p.count).0 u.0, v.0, v.1)
  answer-sound (cycle ms) t = shown-sound p.count (Waits p) (Waits p) w w w-tells w-tells (waits-within p acc) ms t
  answer-sound (fit l) t =
      let φ = map_of l in
      let rows = rounds p.count (step_rows p.count s w φ) in
      let u = both (eqb (length l) p.count) (fitb p.count w (at rows)) t in (
        (eqb_tells (length l) p.count).0 u.0,
        fit-sound p acc w w-tells φ (at rows)
            (closure-tell p.count (Step p φ) (step-within p acc φ) (stepb p.count s w φ) (step-tell p acc w w-tells φ s s-tells)) u.1,
      )
  answer-sound (unfit l ms vs) t =
      let φ = map_of l in
      let steps = at (step_rows p.count s w φ) in
      let tells = rows_tell p.count (Step p φ) (step-within p acc φ) (stepb p.count s w φ) (step-tell p acc w w-tells φ s s-tells) in
      let u = both (eqb (length l) p.count) (shownb p.count w steps ms && wordsb steps w ms vs) t in
      let v = both (shownb p.count w steps ms) (wordsb steps w ms vs) u.1 in (
        (eqb_tells (length l) p.count).0 u.0,
        shown-sound p.count (Waits p) (Step p φ) w steps w-tells tells (step-within p acc φ) ms v.0,
        words-sound φ steps tells ms vs v.1,
      )

abbrev checkb : Case → Bool
checkb c = let rows = waits_rows (relations_of c.given).count (cb c.given) (sb c.given) in okb c.given && answerb (relations_of c.given).count (sb c.given) (at rows) c.answer

abbrev allb : List Case → Bool
allb [] = true
allb (c ∷ cs) = checkb c && allb cs

pub case-sound : (c : Case) → T (checkb c) → Right (relations_of c.given) c.answer
case-sound c t =
    let g = c.given in
    let p = relations_of g in
    let w = at (waits_rows p.count (cb g) (sb g)) in
    let u = both (okb g) (answerb p.count (sb g) w c.answer) t in
    let acc = accepted g u.0 in
    answer-sound p acc (sb g) w (sb-tells g) (waits-tell p acc (cb g) (sb g) (cb-tells g) (sb-tells g)) c.answer u.1

pub all_sound : (cs : List Case) → T (allb cs) → AllRight cs
all_sound [] t = tt
all_sound (c ∷ cs) t = let u = both (checkb c) (allb cs) t in (case-sound c u.0, all_sound cs u.1)

-- The single theorem over the list.
pub cases-right : AllRight cases
unfolding span
cases-right = all_sound cases tt

pub more-right : AllRight more_cases
unfolding span
more-right = all_sound more_cases tt
