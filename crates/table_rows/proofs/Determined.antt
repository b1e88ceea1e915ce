-- Each contract of this crate leaves one answer; of rows that are below 2 ^ 64.
use Prim.Native.Nat.{◌<◌}
use mathlib.Core.Logic.{◌⊎◌, inl, inr}
use Rattle.rows.proofs.Determined.{words-one}
use Rattle.rows.specs.Determined.{DeterminesWords}
use Rattle.tables.specs.declared.Tables.{Tables}
use Rattle.tables.specs.Relations.{CausesRows, StallsRows, FirstNoEntry, NoEntryFound}
use mathlib.Core.Path.{◌≡◌, refl, ap}
use Rattle.std.proofs.Common.{None, Some}
use native.Mathlib.Omega.{arith}
use Rattle.determined.specs.Determined.{Determines}
use Rattle.rules.proofs.Cycle.{compare}

pub causes-rows-determined : (t : Tables) → DeterminesWords 64 64 (CausesRows t)
causes-rows-determined t = words-one 64 64 _

pub stalls-rows-determined : (t : Tables) → DeterminesWords 64 64 (StallsRows t)
stalls-rows-determined t = words-one 64 64 _

pub no-entry-determined : (t : Tables) → Determines (FirstNoEntry t)
no-entry-determined t r s p q = pick (compare r s)
  where
    pick : (r < s) ⊎ ((r ≡ s) ⊎ (s < r)) → r ≡ s
    pick (inl h) = absurd (q.earlier r h (p.found (omega (arith, q.within))))
    pick (inr (inl e)) = e
    pick (inr (inr h)) = absurd (p.earlier s h (q.found (omega (arith, p.within))))

pub no-entry-found-determined : (t : Tables) → Determines (NoEntryFound t)
no-entry-found-determined t None None p q = refl
no-entry-found-determined t None (Some s) p q = absurd (omega (arith, no-entry-determined t t.cell_count s p q.0))
no-entry-found-determined t (Some r) None p q = absurd (omega (arith, no-entry-determined t r t.cell_count p.0 q))
no-entry-found-determined t (Some r) (Some s) p q = ap Some (no-entry-determined t r s p.0 q.0)
