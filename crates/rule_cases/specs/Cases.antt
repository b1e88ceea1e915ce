-- The proved table of the paper (01-scope.md, "The proved table"): fourteen cases, and what it means that the rules give the answer written beside each.
use Rattle.std.specs.Prelude.{ℕ, ◌+◌, ◌-◌, ◌≡◌, Bool, false, ◌||◌, ◌⊎◌, eqb, List, [], ◌∷◌, ◌++◌, length, get_or}
use Rattle.rules.specs.Lists.{up_to}
use Rattle.rules.specs.Walks.{Rel}
use Rattle.rules.specs.Rules.{MessageNo, StateNo, NetworkNo, Cell, message, event, stall, go, Relations, of_cells, of_cells_directly, Mapping, Fit}
use Rattle.rules.specs.Plan.{LeastCount, Printed, PlanCycle, JudgeCycle, Word, waits, queues, Says}

-- ---- what a case gives

-- The pair of a and b is in the list.
abbrev pub AmongPairs : List (MessageNo × MessageNo) → Rel
AmongPairs [] a b = ⊥
AmongPairs (q ∷ l) a b = ((a ≡ q.0) × (b ≡ q.1)) ⊎ AmongPairs l a b

pub data Given : Type 0 where
  -- so many messages, the causes pairs and the stalls pairs
  relations : ℕ → List (MessageNo × MessageNo) → List (MessageNo × MessageNo) → Given
  -- so many messages, the transient states, and the cells
  tables : ℕ → List StateNo → List Cell → Given
  -- the same, by rule 3 as it was before C-12, which asks for no state's kind
  directly : ℕ → List Cell → Given

-- Whether a state is in the list.
abbrev pub listed : List StateNo → StateNo → Bool
listed [] s = false
listed (x ∷ l) s = eqb s x || listed l s

abbrev pub relations_of : Given → Relations
relations_of (relations n causes stalls) = record { count = n; causes = AmongPairs causes; stalls = AmongPairs stalls }
relations_of (tables n transient cells) = of_cells (listed transient) cells n
relations_of (directly n cells) = of_cells_directly cells n

-- ---- what a case answers

pub data CaseAnswer : Type 0 where
  -- class 3: the least count, and the network of each message
  networks : ℕ → List NetworkNo → CaseAnswer
  -- class 2: the cycle
  cycle : List MessageNo → CaseAnswer
  -- this mapping is fit
  fit : List NetworkNo → CaseAnswer
  -- this mapping is unfit: the messages of the cycle, and the word at each step
  unfit : List NetworkNo → List MessageNo → List Word → CaseAnswer

abbrev pub map_of : List NetworkNo → Mapping
map_of l m = get_or l m 0

-- The words at the steps of the chain from m through l.
abbrev pub Worded : Relations → Mapping → MessageNo → List MessageNo → List Word → Type 0
Worded p φ m [] [] = Unit {0}
Worded p φ m [] (w ∷ ws) = ⊥
Worded p φ m (k ∷ l) [] = ⊥
Worded p φ m (k ∷ l) (w ∷ ws) = Says p φ m w k × Worded p φ k l ws

-- The words at the steps of a closed walk.
abbrev pub WordsAlong : Relations → Mapping → List MessageNo → List Word → Type 0
WordsAlong p φ [] ws = ⊥
WordsAlong p φ (m ∷ l) ws = Worded p φ m (l ++ m ∷ []) ws

-- The rules give this answer. A mapping has a network for each message.
abbrev pub Right : Relations → CaseAnswer → Type 0
Right p (networks k l) = (length l ≡ p.count) × LeastCount p k × Printed p (map_of l)
Right p (cycle ms) = PlanCycle p ms
Right p (fit l) = (length l ≡ p.count) × Fit p (map_of l)
Right p (unfit l ms ws) = (length l ≡ p.count) × JudgeCycle p (map_of l) ms × WordsAlong p (map_of l) ms ws

pub record Case : Type 0 where
  pub given : Given
  pub answer : CaseAnswer

abbrev pub AllRight : List Case → Type 0
AllRight [] = Unit {0}
AllRight (c ∷ cs) = Right (relations_of c.given) c.answer × AllRight cs

-- ---- "Bell"

-- The listing of the paper. Messages: 0 Ask, 1 Pass, 2 Give, 3 Done. Event: 0 load.
-- States: 0 I, 1 ID, 2 V of the cache; 3 Free, 4 Wait of the dir. ID and Wait are transient.
abbrev pub bell : List Cell
bell =
    -- cell cache I load go ID Ask
    record { state = 0; trigger = event 0; outcome = go 1; sent = 0 ∷ [] }
    -- cell cache ID Give go V Done
    ∷ record { state = 1; trigger = message 2; outcome = go 2; sent = 3 ∷ [] }
    -- cell cache V Pass go I Give
    ∷ record { state = 2; trigger = message 1; outcome = go 0; sent = 2 ∷ [] }
    -- cell dir Free Ask go Wait Pass
    ∷ record { state = 3; trigger = message 0; outcome = go 4; sent = 1 ∷ [] }
    -- cell dir Wait Ask stall
    ∷ record { state = 4; trigger = message 0; outcome = stall; sent = [] }
    -- cell dir Wait Done go Free
    ∷ record { state = 4; trigger = message 3; outcome = go 3; sent = [] }
    ∷ []

abbrev pub bell_transient : List StateNo
bell_transient = 1 ∷ 4 ∷ []

-- cell cache ID Pass stall
abbrev pub pass_stalls : Cell
pass_stalls = record { state = 1; trigger = message 1; outcome = stall; sent = [] }

-- ---- the fourteen, in the paper's order

abbrev pub cases : List Case
cases =
    -- 1. One message, no pairs: 1 network.
    record { given = relations 1 [] []; answer = networks 1 (0 ∷ []) }
    -- 2. a stalls a, no causes: 1 network.
    ∷ record { given = relations 1 [] ((0, 0) ∷ []); answer = networks 1 (0 ∷ []) }
    -- 3. a stalls a, a causes a: class 2, cycle a.
    ∷ record { given = relations 1 ((0, 0) ∷ []) ((0, 0) ∷ []); answer = cycle (0 ∷ []) }
    -- 4. Four messages in a causes chain, no stalls: 1.
    ∷ record { given = relations 4 ((0, 1) ∷ (1, 2) ∷ (2, 3) ∷ []) []; answer = networks 1 (0 ∷ 0 ∷ 0 ∷ 0 ∷ []) }
    -- 5. Bell: 2. Ask 1; Pass, Give and Done 0.
    ∷ record { given = tables 4 bell_transient bell; answer = networks 2 (1 ∷ 0 ∷ 0 ∷ 0 ∷ []) }
    -- 6. Bell and `cell cache ID Pass stall`: class 2, cycle Pass.
    ∷ record { given = tables 4 bell_transient (bell ++ pass_stalls ∷ []); answer = cycle (1 ∷ []) }
    -- 7. A, B, C, D; A causes B, D causes C; A stalls A, D stalls B: 3 networks, A 2, B 1, C 0, D 0.
    ∷ record { given = relations 4 ((0, 1) ∷ (3, 2) ∷ []) ((0, 0) ∷ (3, 1) ∷ []); answer = networks 3 (2 ∷ 1 ∷ 0 ∷ 0 ∷ []) }
    -- 8. a, b, c, d; a causes b, c causes d; a stalls d, c stalls b: cycle b d.
    ∷ record { given = relations 4 ((0, 1) ∷ (2, 3) ∷ []) ((0, 3) ∷ (2, 1) ∷ []); answer = cycle (1 ∷ 3 ∷ []) }
    -- 9. CleanUnique 0, Inv 1, Inv-Ack 2, Resp 3, Comp 4 in a causes chain; CleanUnique stalls ReadShared 5: 2, ReadShared alone in 1.
    ∷ record { given = relations 6 ((0, 1) ∷ (1, 2) ∷ (2, 3) ∷ (3, 4) ∷ []) ((0, 5) ∷ []); answer = networks 2 (0 ∷ 0 ∷ 0 ∷ 0 ∷ 0 ∷ 1 ∷ []) }
    -- 10. 32 messages, i causes i+1, each stalls itself: 32, message i in 31-i.
    ∷ record { given = relations 32 (up_to 31 (λ i. (i, i + 1))) (up_to 32 (λ i. (i, i))); answer = networks 32 (up_to 32 (λ i. 31 - i)) }
    -- 11. Bell, all in 0: unfit; Ask waits Pass, Pass queues Ask.
    ∷ record { given = tables 4 bell_transient bell; answer = unfit (0 ∷ 0 ∷ 0 ∷ 0 ∷ []) (0 ∷ 1 ∷ []) (waits ∷ queues ∷ []) }
    -- 12. Bell, Ask and Give in 0, others in 1: unfit; Ask waits Give, Give queues Ask.
    ∷ record { given = tables 4 bell_transient bell; answer = unfit (0 ∷ 1 ∷ 0 ∷ 1 ∷ []) (0 ∷ 2 ∷ []) (waits ∷ queues ∷ []) }
    -- 13. Bell, Ask 5, others 9: fit.
    ∷ record { given = tables 4 bell_transient bell; answer = fit (5 ∷ 9 ∷ 9 ∷ 9 ∷ []) }
    -- 14. Bell, printed mapping: fit.
    ∷ record { given = tables 4 bell_transient bell; answer = fit (1 ∷ 0 ∷ 0 ∷ 0 ∷ []) }
    ∷ []

-- ---- cases of our own, where no case of the paper tells a wrong turn from the right one

-- Messages: 0 Ask, 1 Pass, 2 Done. States: 0 Free, 1 Wait of the dir. Done keeps the directory in Wait, so it is no carrier of Wait.
abbrev pub stays : List Cell
stays =
    -- cell dir Free Ask go Wait
    record { state = 0; trigger = message 0; outcome = go 1; sent = [] }
    -- cell dir Wait Ask stall
    ∷ record { state = 1; trigger = message 0; outcome = stall; sent = [] }
    -- cell dir Wait Done go Wait Pass
    ∷ record { state = 1; trigger = message 2; outcome = go 1; sent = 1 ∷ [] }
    ∷ []

-- C-12: "A customer's cache goes from a stable state to P1 sending Get, then to P2 on Data, and stalls Fwd in P2."
-- Messages: 0 Get, 1 Data, 2 Fwd, 3 Ack. Event: 0 load. States: 0 I, 1 P1, 2 P2, 3 V of the cache; 4 Free of the dir. P1 and P2 are transient.
-- The directory answers Get with Data and forwards to the other caches, which acknowledge.
abbrev pub cache : List Cell
cache =
    -- cell cache I load go P1 Get
    record { state = 0; trigger = event 0; outcome = go 1; sent = 0 ∷ [] }
    -- cell cache P1 Data go P2
    ∷ record { state = 1; trigger = message 1; outcome = go 2; sent = [] }
    -- cell cache P2 Fwd stall
    ∷ record { state = 2; trigger = message 2; outcome = stall; sent = [] }
    -- cell cache P2 Ack go V
    ∷ record { state = 2; trigger = message 3; outcome = go 3; sent = [] }
    -- cell cache V Fwd go I Ack
    ∷ record { state = 3; trigger = message 2; outcome = go 0; sent = 3 ∷ [] }
    -- cell dir Free Get go Free Data Fwd
    ∷ record { state = 4; trigger = message 0; outcome = go 4; sent = 1 ∷ 2 ∷ [] }
    ∷ []

-- Messages: 0 Get, 1 Data, 2 More, 3 Fwd, 4 Inv. States: 0 I, 1 P1, 2 P2, 3 P3 of the cache; 4 Free of the dir. P1, P2 and P3 are transient.
-- Get is found only two states back from P3: it enters P1, and nothing else than Get makes anything happen.
abbrev pub farther : List Cell
farther =
    -- cell cache I load go P1 Get
    record { state = 0; trigger = event 0; outcome = go 1; sent = 0 ∷ [] }
    -- cell cache P1 Data go P2
    ∷ record { state = 1; trigger = message 1; outcome = go 2; sent = [] }
    -- cell cache P2 More go P3
    ∷ record { state = 2; trigger = message 2; outcome = go 3; sent = [] }
    -- cell cache P3 Fwd stall
    ∷ record { state = 3; trigger = message 3; outcome = stall; sent = [] }
    -- cell dir Free Get go Free Inv
    ∷ record { state = 4; trigger = message 0; outcome = go 4; sent = 4 ∷ [] }
    ∷ []

abbrev pub more_cases : List Case
more_cases =
    -- a and b stall each other, no causes, both in 0: each queues behind the other, and nothing waits. Fit.
    record { given = relations 2 [] ((0, 1) ∷ (1, 0) ∷ []); answer = fit (0 ∷ 0 ∷ []) }
    -- a stalls a, a causes b, both stand in 0 and are stalled: the step from b to a is queues, that from a to b is waits and queues both.
    ∷ record { given = relations 2 ((0, 1) ∷ []) ((0, 0) ∷ (1, 1) ∷ []); answer = unfit (0 ∷ 0 ∷ []) (0 ∷ 1 ∷ []) (waits ∷ queues ∷ []) }
    -- A cell that stays in its state enters nothing (rule 2): only Ask stalls Ask, and Ask causes nothing. 1 network.
    ∷ record { given = tables 3 (1 ∷ []) stays; answer = networks 1 (0 ∷ 0 ∷ 0 ∷ []) }
    -- The customer's cache by the old rule: Data alone stalls Fwd, and Data causes nothing. 1 network.
    ∷ record { given = directly 4 cache; answer = networks 1 (0 ∷ 0 ∷ 0 ∷ 0 ∷ []) }
    -- By the mended rule Get stalls Fwd too, and Get causes Fwd: class 2, cycle Fwd.
    ∷ record { given = tables 4 (1 ∷ 2 ∷ []) cache; answer = cycle (2 ∷ []) }
    -- Get is two states back: Fwd waits for Inv. 2 networks, Fwd alone in 1; with the old rule 1.
    ∷ record { given = tables 5 (1 ∷ 2 ∷ 3 ∷ []) farther; answer = networks 2 (0 ∷ 0 ∷ 0 ∷ 1 ∷ 0 ∷ []) }
    ∷ record { given = directly 5 farther; answer = networks 1 (0 ∷ 0 ∷ 0 ∷ 0 ∷ 0 ∷ []) }
    -- P1 is stable here, so it is not taken on the way; its cell into P2 is an entry still. Data alone stalls Fwd. 1 network.
    ∷ record { given = tables 4 (2 ∷ []) cache; answer = networks 1 (0 ∷ 0 ∷ 0 ∷ 0 ∷ []) }
    ∷ []
