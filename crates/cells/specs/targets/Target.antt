-- Where a cell goes to, and what it sends.
use Rattle.std.specs.Prelude.{ℕ, ◌≡◌, ◌&&◌, List, length, Result}
use Rattle.tables.specs.declared.Controller.{Controller}
use Rattle.tables.specs.declared.Tables.{Tables}
use Rattle.tables.specs.names.Names.{state_at, is_state_name}
use Rattle.text.specs.Line.{Line, field}
use Rattle.papers.specs.declared.refused.Field.{Field}
use Rattle.lines.specs.Line.{sent_fields, sent_from}
use Rattle.lines.specs.Checks.{all_messages, sent_names, go_names}
use Rattle.cells.specs.Names.{known_or_field}
use Rattle.cells.specs.declared.targets.Sent.{Sent}
use Rattle.cells.specs.declared.targets.Target.{Target}

abbrev pub named_sent : Tables → List (List ℕ) → Sent
named_sent t xs = record { sent = sent_from t xs; count = length xs }

-- The first of the names stands in field 7, counted from 1.
abbrev pub SentTold : List (List ℕ) → Tables → Result Sent Field → Type 0
SentTold xs t r = r ≡ known_or_field (all_messages t xs) (named_sent t xs) (sent_names t 7 xs)

abbrev pub named_target : Tables → Controller → Line → Target
named_target t whose f = record { next = record { 0 = state_at t whose (field f 5) }; sent = named_sent t (sent_fields f) }

abbrev pub TargetTold : Line → Controller → Tables → Result Target Field → Type 0
TargetTold f whose t r =
    r ≡ known_or_field (is_state_name t whose (field f 5) && all_messages t (sent_fields f)) (named_target t whose f) (go_names t whose f)
