-- `plan_listing::cycle::NamedCycle::put_names` meets its contract.
use mathlib.Core.Path.{◌≡◌, refl, ap, subst}
use mathlib.Core.List.{List, ◌++◌}
use Prim.Native.Nat.{ℕ, ◌+◌, ◌≤◌, ◌<◌}
use lib.ListN.{length, get_or, length-append}
use native.Mathlib.Omega.{arith}
use Rattle.rules.specs.declared.Message.{Message}
use Rattle.text.specs.Name.{name_text}
use Rattle.text.specs.Words.{tab}
use Rattle.text.specs.Written.{Wrote}
use Rattle.text.proofs.Written.{part_room, wrote-length}
use Rattle.tables.specs.declared.MessageRow.{MessageRow}
use Rattle.plan_listing.specs.PlanText.{names_text, first_messages, message_numbers, HaveRows}
use Rattle.plan_listing.proofs.Growing.{next-put}
use Rattle.plan_listing.proofs.Lines.{names_to, names_more, names-fit, names-all, row-here, no_row, no_step}
use Rattle.plan_listing.proofs.cycle.NamedCycle.put_names.Goals as goal

-- the message at place i of the cycle, whose row is row k
module _ (rows : List MessageRow) (cycle : List Message) (i k : ℕ) (here : i < length cycle) (known : HaveRows rows cycle) (q : k ≡ (get_or cycle i no_step).0) where
  -- the message has a row
  below : k < length rows
  below = omega (arith, q, row-here no_step rows cycle i known here)

  -- the next name, with which the text is no longer than all
  abbrev name : List ℕ
  name = tab ++ name_text (get_or rows k no_row).name

  more : names_to rows cycle (i + 1) ≡ names_to rows cycle i ++ name
  more = names_more no_step rows no_row cycle i here k q below

  fits : length (names_to rows cycle (i + 1)) ≤ length (names_text rows (message_numbers cycle))
  fits = names-fit no_step rows cycle i here

  parts_fit : length (names_to rows cycle i) + length name ≤ length (names_text rows (message_numbers cycle))
  parts_fit = omega (arith, fits, ap length more, length-append (names_to rows cycle i) name)

pub loop-m-init : goal.loop-m-init
unfolding names_text first_messages
loop-m-init c = (refl, record { count = refl; bytes = refl })

pub returns : goal.returns
returns c =
    let shown = c.args.self.now in
    subst (λ (l : List ℕ). Wrote l c.args.out.now c.loop-m.out c.loop-m.at)
    (names-all shown.rows.now shown.cycle.now c.loop-m.m-index (omega arith)) c.loop-m.invariant.1

pub offset_bounds-self-index : goal.offset_bounds-self-index
offset_bounds-self-index c =
    let shown = c.args.self.now in
    omega (arith, below shown.rows.now shown.cycle.now c.loop-m.m-index _ (omega arith) shown.have_rows c.index.ensures, shown.have_rows.few_rows)

pub bounds-self-index : goal.bounds-self-index
bounds-self-index c =
    let shown = c.args.self.now in
    below shown.rows.now shown.cycle.now c.loop-m.m-index _ (omega arith) shown.have_rows c.index.ensures

pub put_name-at-requires : goal.put_name-at-requires
put_name-at-requires c =
    let shown = c.args.self.now in
    let room = parts_fit shown.rows.now shown.cycle.now c.loop-m.m-index _ (omega arith) shown.have_rows c.index.ensures in
    part_room (tab ++ name_text (get_or shown.rows.now c.index.result no_row).name) c.loop-m.out c.loop-m.at (omega arith)

pub loop-m-preserved : goal.loop-m-preserved
loop-m-preserved c =
    let shown = c.args.self.now in
    let i = c.loop-m.m-index in
    let next = more shown.rows.now shown.cycle.now i _ (omega arith) shown.have_rows c.index.ensures in
    let within = fits shown.rows.now shown.cycle.now i _ (omega arith) shown.have_rows c.index.ensures in
    let room : length (names_to shown.rows.now shown.cycle.now (i + 1)) ≤ length c.args.out.now = omega (arith, c.requires) in
    let w = next-put _ _ _ c.args.out.now _ _ next room c.loop-m.invariant.1 _ _ c.put_name-at.ensures in
    (wrote-length _ _ _ _ room w, w)
