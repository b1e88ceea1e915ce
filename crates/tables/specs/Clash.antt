-- Refusal 11, CONFLICT: "an earlier cell has the same controller, state and trigger, and at least one of the two is `stall`".
-- A state number stands for one controller's state.
use Rattle.std.specs.Prelude.{Bool, true, false, ◌&&◌, ◌||◌, List, [], ◌∷◌, eqb}
use Rattle.tables.specs.declared.Trigger.{Trigger}
use Rattle.tables.specs.declared.Trigger.TheVariants.{Message as OnMessage, Event as OnEvent}
use Rattle.tables.specs.declared.Outcome.{Outcome}
use Rattle.tables.specs.declared.Outcome.TheVariants.{Stall, Go}
use Rattle.tables.specs.declared.Cell.{Cell}

abbrev pub same_trigger_lem : Trigger → Trigger → Bool
same_trigger_lem (OnMessage m) (OnMessage n) = eqb m.0 n.0
same_trigger_lem (OnMessage m) (OnEvent n) = false
same_trigger_lem (OnEvent m) (OnMessage n) = false
same_trigger_lem (OnEvent m) (OnEvent n) = eqb m.0 n.0

abbrev pub is_stall_lem : Outcome → Bool
is_stall_lem Stall = true
is_stall_lem (Go s) = false

-- Two cells of one place and trigger, of which at least one stalls.
abbrev pub clashes : Cell → Cell → Bool
clashes d c =
    eqb d.state.0 c.state.0 && (same_trigger_lem d.trigger c.trigger && (is_stall_lem d.outcome || is_stall_lem c.outcome))

-- Some cell of the list clashes with c.
unfoldable pub any_clash_lem : Cell → List Cell → Bool
any_clash_lem c [] = false
any_clash_lem c (d ∷ ds) = clashes d c || any_clash_lem c ds
