-- The longest listings of a plan.
use Prim.Native.Nat.{ℕ, suc, ◌*◌, ◌≤◌, ◌<◌}
use mathlib.Core.List.{List, [], ◌∷◌, ◌++◌}
use native.Mathlib.Omega.{arith}
use lib.ListN.{length, get_or, length-append}
use Rattle.text.specs.Name.{name_text}
use Rattle.text.specs.Words.{tab}
use Rattle.text.specs.Written.{decimal}
use Rattle.text.proofs.Written.{decimal-length}
use Rattle.tables.specs.declared.MessageRow.{MessageRow}
use Rattle.mapping.specs.Text.{map_texts}
use Rattle.plan_listing.specs.PlanText.{map_text, name_at, names_text}
use Rattle.plan_listing.specs.Lengths.{ShortNames, LongestMaps, LongestCycle}
use Rattle.plan_listing.proofs.Lines.{map-text-length, class-three-length, class-two-length}

two_digits : (n : ℕ) → n ≤ 64 → length (decimal n) ≤ 2
two_digits n h = decimal-length 1 n (omega arith)

short-maps : (ms : List MessageRow) (ns : List ℕ) → ShortNames ms → ((i : ℕ) → i < length ns → get_or ns i 0 < 64)
    → length (map_texts ms ns) ≤ 32 * length ms
unfolding map_texts
short-maps [] ns f g = omega arith
short-maps (m ∷ ms) [] f g = omega arith
short-maps (m ∷ ms) (n ∷ ns) f g =
    omega (
      arith,
      length-append (map_text (name_text m.name) n) (map_texts ms ns),
      map-text-length (name_text m.name) n,
      f 0,
      two_digits n (omega (arith, g 0 (omega arith))),
      short-maps ms ns (λ i. f (suc i)) (λ i h. g (suc i) (omega arith)),
    )

pub longest-maps : LongestMaps
longest-maps messages networks count f few g small =
    omega (arith, class-three-length messages networks count, two_digits count small, short-maps messages networks f g)

short-names : (rows : List MessageRow) (cycle : List ℕ) → ShortNames rows → length (names_text rows cycle) ≤ 25 * length cycle
unfolding names_text name_at
short-names rows [] f = omega arith
short-names rows (m ∷ cycle) f =
    omega (arith, length-append (tab ++ name_at rows m) (names_text rows cycle), f m, short-names rows cycle f)

pub longest-cycle : LongestCycle
longest-cycle rows cycle f few = omega (arith, class-two-length rows cycle, short-names rows cycle f)
