-- `cells::places::trigger_at` meets its contract.
use mathlib.Core.Path.{◌∙◌}
use Rattle.cells.proofs.Named.{message-known, message-unknown, same-event}
use Rattle.cells.proofs.places.Placed.{on-message, on-dir, on-event}
use Rattle.cells.proofs.places.trigger_at.Goals as goal

pub returns-in-Some : goal.returns-in-Some
returns-in-Some c = on-message _ _ _ _ (message-known _ _ _ c.messages.ensures.rows c.messages.ensures.many _ c.in-Some.ensures)

pub returns-in-Cache : goal.returns-in-Cache
returns-in-Cache c =
    rw c.in-Cache.is
    (on-event _ _ (message-unknown _ _ _ c.messages.ensures.rows c.messages.ensures.many c.in_default.ensures) _
    (c.event_named.ensures ∙ same-event _ _ _ c.events.ensures.rows c.events.ensures.many) _ c.map.ensures.cases)

pub returns-in-Dir : goal.returns-in-Dir
returns-in-Dir c = rw c.in-Dir.is (on-dir _ _ (message-unknown _ _ _ c.messages.ensures.rows c.messages.ensures.many c.in_default.ensures))
