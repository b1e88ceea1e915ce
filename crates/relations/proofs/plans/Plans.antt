-- From rows of waits to what the rules say, and how the answer's bytes stand.
use Prim.Native.Nat.{ℕ, suc, ◌<◌, ◌≤◌}
use mathlib.Core.Path.{◌≡◌, refl, sym, subst, ap, ◌∙◌}
use mathlib.Core.Logic.{inl, inr, ⊎_elim, ◌↔◌}
use mathlib.Core.List.{List, ◌++◌}
use native.Mathlib.Omega.{arith}
use lib.ListN.{length, get_or, take, drop, take-append-drop}
use lib.Seq.{get_or-take, length-take-le}
use Rattle.rules.specs.Rules.{Waits}
use Rattle.rules.specs.Plan.{Height, Printed, LongestChain}
use Rattle.rules.proofs.Chains.{plus-map}
use Rattle.rules.proofs.Same.{height-same, pairs-same, shown-same}
use Rattle.rules.proofs.Least.{least_count, longest-from}
use Rattle.rules.proofs.Decided.{waits-within, plus-closed}
use Rattle.rows.specs.Rows.{Bit, Rows, of_rows}
use Rattle.rows.specs.Joins.{joins}
use Rattle.rows.proofs.Given.{rows-accepted}
use Rattle.rows.proofs.closure.Joining.{joins-same}
use Rattle.walks.specs.Walks.{HeightsWritten, Heights, Cycle}
use Rattle.std.specs.Option.{IsSome}
use Rattle.std.specs.Prelude.{Option, Some, None}
use Rattle.waits.specs.Waiting.{WaitsRows, RowPairs}
use Rattle.waits.proofs.Waiting.{waits-same}
use Rattle.text.specs.Written.{Wrote}
use Rattle.relations.specs.declared.answer.RelationsAnswer.{RelationsAnswer}
use Rattle.relations.specs.plans.Plans.{Class3, Class2, RelationsPlanned, Ranked, Cycled, WaitsPlan}

-- ---- tables that have the same first n rows

abbrev pub Agree : ℕ → List ℕ → List ℕ → Type 0
Agree n rows rows' = (i : ℕ) → i < n → get_or rows i 0 ≡ get_or rows' i 0

pub agree-sym : (n : ℕ) (rows rows' : List ℕ) → Agree n rows rows' → Agree n rows' rows
agree-sym n rows rows' e i h = sym (e i h)

pub rows_agree : (n : ℕ) (rows rows' : List ℕ) → Agree n rows rows' → (i j : ℕ) → Rows n rows i j → Rows n rows' i j
rows_agree n rows rows' e i j r = record { i_below = r.i_below; j_below = r.j_below; bit = subst (λ (x : ℕ). Bit x j) (e i r.i_below) r.bit }

pub waits-agree : (n : ℕ) (causes causes' stalls stalls' : List ℕ) → Agree n causes causes' → Agree n stalls stalls' → (b c : ℕ) → Waits (of_rows n causes stalls) b c → Waits (of_rows n causes' stalls') b c
waits-agree n causes causes' stalls stalls' e f b c w = (w.0, rows_agree n stalls stalls' f w.0 b w.1, plus-map (rows_agree n causes causes' e) w.0 c w.2)

-- ---- the plan of the rows of waits is the plan of the rules

module _ (n : ℕ) (causes stalls rows : List ℕ) (some_message : 0 < n) (same : (b c : ℕ) → Rows n rows b c ↔ Waits (of_rows n causes stalls) b c) where
  class-3 : (bytes : List ℕ) (networks : ℕ) → Ranked n rows bytes networks → Class3 (of_rows n causes stalls) bytes networks
  class-3 bytes networks t = record {
    long = t.long;
    printed = printed;
    least = least_count (of_rows n causes stalls) (waits-within (of_rows n causes stalls) (rows-accepted n causes stalls some_message)) (λ m. get_or bytes m 0) printed networks chain;
  }
    where
      printed : Printed (of_rows n causes stalls) (λ m. get_or bytes m 0)
      printed m h = height-same (Rows n rows) (Waits (of_rows n causes stalls)) same m (get_or bytes m 0) (t.heights m h)

      chain : LongestChain (of_rows n causes stalls) networks
      chain =
          let g = t.greatest in
          longest-from (of_rows n causes stalls) (λ m. get_or bytes m 0) printed g.0 g.1 (λ y h. omega (arith, t.below y h, g.2)) networks g.2

  class-2 : (bytes : List ℕ) (networks : ℕ) → Cycled n rows bytes networks → Class2 (of_rows n causes stalls) bytes networks
  class-2 bytes networks t = record {
    none = t.none;
    cycle = shown-same (Rows n rows) (Waits (of_rows n causes stalls)) (Rows n rows) (Waits (of_rows n causes stalls)) same same bytes t.shown;
  }

  pub planned : (j : ℕ) (old new : List ℕ) (r : RelationsAnswer) → j ≡ joins n causes → WaitsPlan n rows j old new r → RelationsPlanned n causes stalls old new r
  planned j old new r e f = record {
    written = f.written;
    wrote = f.wrote;
    class = ⊎_elim (λ t. inl (class-3 f.written r.networks t)) (λ t. inr (class-2 f.written r.networks t)) f.class;
    waits_pairs = pairs-same (Rows n rows) (Waits (of_rows n causes stalls)) same n n r.pairs f.row_pairs.counted;
    row_joins = f.row_joins ∙ e;
    number_0 = f.number_0;
    needed_0 = f.needed_0;
  }

-- the rows of waits were made from rows that agree with the tables
pub same-waits : (n : ℕ) (causes causes' stalls stalls' old rows : List ℕ) → Agree n causes causes' → Agree n stalls stalls' → WaitsRows n causes stalls old rows
    → (b c : ℕ) → Rows n rows b c ↔ Waits (of_rows n causes' stalls') b c
same-waits n causes causes' stalls stalls' old rows e f w b c =
    let s = waits-same n causes stalls old rows w b c in (
      λ r. waits-agree n causes causes' stalls stalls' e f b c (s.0 r),
      λ x. s.1 (waits-agree n causes' causes stalls' stalls (agree-sym n causes causes' e) (agree-sym n stalls stalls' f) b c x),
    )

-- the joins were counted on rows that agree with the table's
pub same-joins : (n j : ℕ) (causes causes' : List ℕ) → Agree n causes causes' → n ≤ length causes → length causes' ≡ n → j ≡ joins n causes → j ≡ joins n causes'
same-joins n j causes causes' e long long' told = told ∙ joins-same n causes causes' e long (omega arith)

-- ---- what is written

pub wrote-first : (k : ℕ) (old new : List ℕ) → length new ≡ length old → k ≤ length old → drop k new ≡ drop k old → Wrote (take k new) old new k
wrote-first k old new long fits rest =
    let e = length-take-le k new (omega arith) in
    record {
      count = sym e;
      bytes = sym (take-append-drop k new) ∙ ap (λ (t : List ℕ). take k new ++ t) (rest ∙ ap (λ (j : ℕ). drop j old) (sym e));
    }

-- ---- the plan of the rows, from the walks

-- where there are no heights there is a closed walk
pub is_cycle : (n : ℕ) (rows old mid new : List ℕ) (r q : Option ℕ) → r ≡ None → Heights rows n old mid r → Cycle rows rows n mid new q → IsSome q
is_cycle n rows old mid new r None e h c =
    let a = (subst (Heights rows n old mid) e h).told.cyclic in
    let w = plus-closed (Rows n rows) a.0 a.1 in
    absurd (c.told.none w.0 w.1)
is_cycle n rows old mid new r (Some len) e h c = refl

module _ (n : ℕ) (rows old : List ℕ) (room : n ≤ length old) (sum : ℕ) (counted : RowPairs n rows sum) (j : ℕ) where
  pub ranked : (new : List ℕ) (r : Option ℕ) (k : ℕ) → r ≡ Some k → Heights rows n old new r
      → WaitsPlan n rows j old new (record { number = 0; length = n; networks = k; needed = 0; pairs = sum; joins = j })
  ranked new r k e h = record {
    written = take n new;
    wrote = wrote-first n old new h.long room t.rest;
    class = inl (
        record {
          long = length-take-le n new (omega (arith, h.long));
          heights = λ m l. subst (Height (Rows n rows) m) (sym (get_or-take n new m 0 l)) (t.height m l);
          below = λ m l. subst (λ (x : ℕ). x < k) (sym (get_or-take n new m 0 l)) (t.below m l);
          greatest = let g = t.greatest in (g.0, g.1, ap suc (get_or-take n new g.0 0 g.1) ∙ g.2);
        }
        );
    row_pairs = counted;
    row_joins = refl;
    number_0 = refl;
    needed_0 = refl;
  }
    where
      t : HeightsWritten rows n old new k
      t = (subst (Heights rows n old new) e h).told
