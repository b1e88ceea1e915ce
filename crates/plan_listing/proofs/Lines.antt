-- Laws of the lines of a listing: how each grows, and how long it is.
use mathlib.Core.Path.{◌≡◌, refl, sym, ap, ap₂, ◌∙◌, subst}
use mathlib.Core.List.{List, [], ◌∷◌, ◌++◌, append_assoc, append-nil}
use Prim.Native.Nat.{ℕ, zero, suc, ◌+◌, ◌*◌, ◌/◌, ◌≤◌, ◌<◌, min}
use native.Mathlib.Omega.{arith}
use native.Mathlib.Numerals.{add-one}
use native.Mathlib.Nat.{mul-suc}
use lib.ListN.{length, take, get_or, length-append, length-take}
use lib.Seq.{take-length}
use Rattle.std.proofs.lemmas.List.{get_or_default, get_or-map}
use Rattle.rules.specs.declared.Message.{Message}
use Rattle.rules.specs.declared.Network.{Network}
use Rattle.text.specs.Name.{name_text}
use Rattle.text.specs.Words.{tab}
use Rattle.text.specs.Written.{decimal}
use Rattle.text.proofs.Written.{decimal-small, length-step}
use Rattle.tables.specs.declared.MessageRow.{MessageRow}
use Rattle.tables.specs.declared.Kind.TheVariants.{Req}
use Rattle.tables.specs.Tables.{no_message_row}
use Rattle.mapping.specs.Text.{map_fields, map_texts}
use Rattle.tables.specs.Cells.{number as message_number}
use Rattle.plan_listing.specs.PlanText.{number_line, class_head, map_text, class_three, name_at, names_text, cycle_line, class_two, message_numbers, network_numbers, first_messages, first_networks, MessagesBelow, HaveRows}
use Rattle.plan_listing.specs.Lengths.{TextLength}
use Rattle.plan_listing.proofs.Growing.{grows}

-- ---- what the code reads past the end of an array

abbrev pub no_row : MessageRow
no_row = record { name = record { bytes = []; length = 0 }; kind = Req }

abbrev pub no_network_lem : Network
no_network_lem = record { 0 = 0 }

abbrev pub no_step : Message
no_step = record { 0 = 0 }

-- ---- one part longer

-- The length of a text, where one part more stands behind it.
both-lengths : (p q : List ℕ) (a b m n : ℕ) → TextLength p a m → TextLength q b n → TextLength (p ++ q) (a + b) (m + n)
both-lengths p q a b m n v w = record { exact = omega (arith, length-append p q, v.exact, w.exact); few = omega (arith, v.few, w.few) }

one_more : (k i : ℕ) → k * (i + 1) ≡ k * i + k
one_more k i = ap (λ (n : ℕ). k * n) (add-one i) ∙ mul-suc k i

longer-by : (p q r : List ℕ) (i k m n : ℕ) → r ≡ p ++ q → TextLength p (k * i) m → TextLength q k n → TextLength r (k * (i + 1)) (m + n)
longer-by p q r i k m n e v w =
    let both = both-lengths p q (k * i) k m n v w in
    record { exact = both.exact ∙ ap length (sym e); few = subst (λ (z : ℕ). m + n ≤ z) (sym (one_more k i)) both.few }

-- ---- a line for each message

-- The lines of the first i messages, and the line of message i.
abbrev pub maps_to : List MessageRow → List Network → ℕ → List ℕ
maps_to ms ns i = map_texts (take i ms) (first_networks i ns)

abbrev pub map_at : MessageRow → Network → List MessageRow → List Network → ℕ → List ℕ
map_at d e ms ns i = map_text (name_text (get_or ms i d).name) (get_or ns i e).0

-- d and e are what is read past the end
module _ (d : MessageRow) (e : Network) where
  maps-suc : (ms : List MessageRow) (ns : List Network) (i : ℕ) → i < length ms → i < length ns
      → maps_to ms ns (suc i) ≡ maps_to ms ns i ++ map_at d e ms ns i
  unfolding map_texts first_networks
  maps-suc [] ns i h k = absurd (omega arith)
  maps-suc (m ∷ ms) [] i h k = absurd (omega arith)
  maps-suc (m ∷ ms) (n ∷ ns) zero h k = append-nil (map_text (name_text m.name) n.0)
  maps-suc (m ∷ ms) (n ∷ ns) (suc i) h k =
      let first = map_text (name_text m.name) n.0 in
      ap (λ (l : List ℕ). first ++ l) (maps-suc ms ns i (omega arith) (omega arith)) ∙ sym (append_assoc first (maps_to ms ns i) (map_at d e ms ns i))

  next-map : (ms : List MessageRow) (ns : List Network) (i : ℕ) → i < length ms → i < length ns
      → maps_to ms ns (i + 1) ≡ maps_to ms ns i ++ map_at d e ms ns i
  next-map ms ns i h k = ap (maps_to ms ns) (add-one i) ∙ maps-suc ms ns i h k

  -- the lines of as many messages as have a row and a network are all lines
  pub maps-all : (ms : List MessageRow) (ns : List Network) (i : ℕ) → i ≡ min (length ms) (length ns) → maps_to ms ns i ≡ map_texts ms (network_numbers ns)
  unfolding map_texts first_networks
  maps-all [] ns i q = let z : i ≡ 0 = omega arith in rw z
  maps-all (m ∷ ms) [] i q = let z : i ≡ 0 = omega arith in rw z
  maps-all (m ∷ ms) (n ∷ ns) zero q = absurd (omega arith)
  maps-all (m ∷ ms) (n ∷ ns) (suc i) q = ap (λ (l : List ℕ). map_text (name_text m.name) n.0 ++ l) (maps-all ms ns i (omega arith))

  -- one line more is no longer than all
  pub maps-fit : (ms : List MessageRow) (ns : List Network) (i : ℕ) → i < length ms → i < length ns
      → length (maps_to ms ns (i + 1)) ≤ length (map_texts ms (network_numbers ns))
  maps-fit ms ns i h k =
      let n = min (length ms) (length ns) in
      omega (
        arith,
        grows (maps_to ms ns) (map_at d e ms ns) n (λ j g. next-map ms ns j (omega arith) (omega arith)) (i + 1) (omega arith),
        ap length (maps-all ms ns n refl),
      )

  -- the message and the network at place i
  module _ (ms : List MessageRow) (ns : List Network) (i : ℕ) (h : i < length ms) (k : i < length ns)
      (row : MessageRow) (network : Network) (p : row ≡ get_or ms i d) (q : network ≡ get_or ns i e) where
    pub maps-more : maps_to ms ns (i + 1) ≡ maps_to ms ns i ++ map_text (name_text row.name) network.0
    maps-more =
        next-map ms ns i h k
        ∙ ap₂ (λ (r : MessageRow) (n : Network). maps_to ms ns i ++ map_text (name_text r.name) n.0) (sym p) (sym q)

    pub maps-longer : (m n : ℕ) → TextLength (maps_to ms ns i) (33 * i) m → TextLength (map_text (name_text row.name) network.0) 33 n
        → TextLength (maps_to ms ns (i + 1)) (33 * (i + 1)) (m + n)
    maps-longer m n = longer-by (maps_to ms ns i) (map_text (name_text row.name) network.0) (maps_to ms ns (i + 1)) i 33 m n maps-more

    -- the next line has room where all lines have it
    pub map-room : length (maps_to ms ns i) + length (map_text (name_text row.name) network.0) ≤ length (map_texts ms (network_numbers ns))
    map-room = omega (arith, maps-fit ms ns i h k, ap length maps-more, length-append (maps_to ms ns i) (map_text (name_text row.name) network.0))

-- ---- the names of a cycle

-- The names of the first i messages.
abbrev pub names_to : List MessageRow → List Message → ℕ → List ℕ
names_to rows cycle i = names_text rows (first_messages i cycle)

-- the names of all messages
pub names-all : (rows : List MessageRow) (cycle : List Message) (i : ℕ) → i ≡ length cycle → names_to rows cycle i ≡ names_text rows (message_numbers cycle)
unfolding first_messages
names-all rows cycle i q = rw q (ap (λ (l : List Message). names_text rows (message_numbers l)) (take-length cycle))

-- each message of the cycle has a row; e is what is read past the end
pub row-here : (e : Message) (rows : List MessageRow) (cycle : List Message) (i : ℕ) → HaveRows rows cycle → i < length cycle
    → (get_or cycle i e).0 < length rows
row-here e rows cycle i v h = omega (arith, v.here i h, get_or-map message_number cycle i e 0 h)

-- messages of which each is below 64 have rows in a whole table
pub have-rows : (rows : List MessageRow) (n : ℕ) (cycle : List Message) → length rows ≡ 64 → n ≤ 64 → MessagesBelow n (first_messages n cycle)
    → HaveRows rows (take n cycle)
unfolding first_messages
have-rows rows n cycle many few below =
    let long = length-take n cycle in
    record { few_rows = omega arith; few = omega (arith, long); here = λ i h. omega (arith, below i (omega (arith, long))) }

module _ (e : Message) (rows : List MessageRow) where
  names-suc : (cycle : List Message) (i : ℕ) → i < length cycle
      → names_to rows cycle (suc i) ≡ names_to rows cycle i ++ (tab ++ name_at rows (get_or cycle i e).0)
  unfolding names_text first_messages
  names-suc [] i h = absurd (omega arith)
  names-suc (m ∷ cycle) zero h = append-nil (tab ++ name_at rows m.0)
  names-suc (m ∷ cycle) (suc i) h =
      let first = tab ++ name_at rows m.0 in
      ap (λ (l : List ℕ). first ++ l) (names-suc cycle i (omega arith)) ∙ sym (append_assoc first (names_to rows cycle i) (tab ++ name_at rows (get_or cycle i e).0))

  next-name : (cycle : List Message) (i : ℕ) → i < length cycle → names_to rows cycle (i + 1) ≡ names_to rows cycle i ++ (tab ++ name_at rows (get_or cycle i e).0)
  next-name cycle i h = ap (names_to rows cycle) (add-one i) ∙ names-suc cycle i h

  -- one name more is no longer than all
  pub names-fit : (cycle : List Message) (i : ℕ) → i < length cycle → length (names_to rows cycle (i + 1)) ≤ length (names_text rows (message_numbers cycle))
  names-fit cycle i h =
      omega (
        arith,
        grows (names_to rows cycle) (λ j. tab ++ name_at rows (get_or cycle j e).0) (length cycle) (λ j g. next-name cycle j g) (i + 1) (omega arith),
        ap length (names-all rows cycle (length cycle) refl),
      )

  -- d is the row that is read past the end, and j the place of the message's row
  module _ (d : MessageRow) (cycle : List Message) (i : ℕ) (h : i < length cycle) (j : ℕ) (q : j ≡ (get_or cycle i e).0) (k : j < length rows) where
    pub names_more : names_to rows cycle (i + 1) ≡ names_to rows cycle i ++ (tab ++ name_text (get_or rows j d).name)
    unfolding name_at
    names_more =
        next-name cycle i h
        ∙ ap (λ (r : MessageRow). names_to rows cycle i ++ (tab ++ name_text r.name))
        (ap (λ (m : ℕ). get_or rows m no_message_row) (sym q) ∙ get_or_default rows j no_message_row d k)

    pub names-longer : (m n : ℕ) → TextLength (names_to rows cycle i) (25 * i) m → TextLength (tab ++ name_text (get_or rows j d).name) 25 n
        → TextLength (names_to rows cycle (i + 1)) (25 * (i + 1)) (m + n)
    names-longer m n = longer-by (names_to rows cycle i) (tab ++ name_text (get_or rows j d).name) (names_to rows cycle (i + 1)) i 25 m n names_more

-- ---- lengths

pub digits-one : (n : ℕ) → n < 10 → length (decimal n) ≡ 1
digits-one n h = ap length (decimal-small n h)

pub digits-two : (n : ℕ) → 10 ≤ n → n < 100 → length (decimal n) ≡ 2
digits-two n h k = omega (arith, length-step n h, digits-one (n / 10) (omega arith))

pub digits-three : (n : ℕ) → 100 ≤ n → n < 1000 → length (decimal n) ≡ 3
digits-three n h k = omega (arith, length-step n (omega arith), digits-two (n / 10) (omega arith) (omega arith))

pub map-text-length : (name : List ℕ) (n : ℕ) → length (map_text name n) ≡ 6 + length name + length (decimal n)
unfolding map_fields
map-text-length name n = simp length-append (omega arith)

pub head-length : (class : ℕ) → class < 10 → length (class_head class) ≡ 18
unfolding class_head number_line
head-length class h = simp length-append (omega (arith, digits-one class h))

pub class-three-length : (ms : List MessageRow) (ns : List ℕ) (count : ℕ)
    → length (class_three ms ns count) ≡ 28 + length (decimal count) + length (map_texts ms ns)
unfolding class_three number_line
class-three-length ms ns count = simp length-append (omega (arith, head-length 3 (omega arith)))

pub class-two-length : (rows : List MessageRow) (cycle : List ℕ) → length (class_two rows cycle) ≡ 24 + length (names_text rows cycle)
unfolding class_two cycle_line
class-two-length rows cycle = simp length-append (omega (arith, head-length 2 (omega arith)))
