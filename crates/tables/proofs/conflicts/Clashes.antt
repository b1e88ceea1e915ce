-- The cells that clash with c, as a test of each.
use mathlib.Core.Path.{◌≡◌, refl, ap}
use mathlib.Core.Bool.{Bool, ◌||◌}
use mathlib.Core.List.{List, [], ◌∷◌}
use Rattle.std.specs.List.{list_any}
use Rattle.tables.specs.declared.Cell.{Cell}
use Rattle.tables.specs.Clash.{clashes, any_clash_lem}

pub any-clash-tests : (c : Cell) (ds : List Cell) → any_clash_lem c ds ≡ list_any (λ d. clashes d c) ds
unfolding any_clash_lem
any-clash-tests c [] = refl
any-clash-tests c (d ∷ ds) = ap (λ (t : Bool). clashes d c || t) (any-clash-tests c ds)
