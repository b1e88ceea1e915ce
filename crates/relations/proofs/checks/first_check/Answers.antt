-- `relations::checks::first_check` meets its contract.
use Prim.Native.Nat.{ℕ}
use mathlib.Core.Path.{◌≡◌, sym, ap, ◌∙◌}
use mathlib.Core.Bool.{true}
use Rattle.rows.proofs.Told.{told-false}
use Rattle.relations.specs.checks.CallChecks.{stray_bit, refused_relations}
use Rattle.relations.proofs.checks.Passing.{stray-causes, stray-stalls, no-strays, first_count, first-stray, first-room, first-none}
use Rattle.relations.proofs.checks.first_check.Goals.{then-stray-via-then-stray, then-stray-via-else-stray+then-stray-2}
use Rattle.relations.proofs.checks.first_check.Goals as goal

pub returns-then-wrong_count : goal.returns-then-wrong_count
unfolding refused_relations
returns-then-wrong_count g c =
    let a = c.args in
    ap (λ (k : ℕ). refused_relations k a.n) (sym (first_count g.row.SIZE g.row.MOST a.n a.causes.now a.stalls.now a.room (sym c.wrong_count.ensures ∙ c.if-wrong_count.true)))

pub returns-then-stray : goal.returns-then-stray
unfolding refused_relations
returns-then-stray g c =
    let a = c.args in
    let given : stray_bit g.row.SIZE a.n a.causes.now a.stalls.now ≡ true =
    elim c.then-stray.branch [
      | then-stray-via-then-stray w ↦ stray-causes g.row.SIZE a.n a.causes.now a.stalls.now (rw (c.of-causes.ensures.0, c.of-causes.ensures.1) at (c.stray.ensures.0 w.if-stray.true))
      | then-stray-via-else-stray+then-stray-2 w ↦ stray-stalls g.row.SIZE a.n a.causes.now a.stalls.now (rw (c.of-stalls.ensures.0, c.of-stalls.ensures.1) at (w.stray-else-stray.ensures.0 w.if-stray-2.true))
    ] in
    ap (λ (k : ℕ). refused_relations k a.n) (sym (first-stray g.row.SIZE g.row.MOST a.n a.causes.now a.stalls.now a.room (sym c.wrong_count.ensures ∙ c.if-wrong_count.false) given))

pub returns-then-room-n : goal.returns-then-room-n
unfolding refused_relations
returns-then-room-n g c =
    let a = c.args in
    let s = rw (c.of-causes.ensures.0, c.of-causes.ensures.1) at (told-false _ _ c.stray.ensures c.if-stray.false) in
    let t = rw (c.of-stalls.ensures.0, c.of-stalls.ensures.1) at (told-false _ _ c.stray-else-stray.ensures c.if-stray-2.false) in
    ap (λ (k : ℕ). refused_relations k a.n) (sym (first-room g.row.SIZE g.row.MOST a.n a.causes.now a.stalls.now a.room (sym c.wrong_count.ensures ∙ c.if-wrong_count.false) (no-strays _ _ _ _ s t) c.if-room-n.true))

pub returns : goal.returns
returns g c =
    let a = c.args in
    let s = rw (c.of-causes.ensures.0, c.of-causes.ensures.1) at (told-false _ _ c.stray.ensures c.if-stray.false) in
    let t = rw (c.of-stalls.ensures.0, c.of-stalls.ensures.1) at (told-false _ _ c.stray-else-stray.ensures c.if-stray-2.false) in
    first-none g.row.SIZE g.row.MOST a.n a.causes.now a.stalls.now a.room (sym c.wrong_count.ensures ∙ c.if-wrong_count.false) (no-strays _ _ _ _ s t) c.if-room-n.false
