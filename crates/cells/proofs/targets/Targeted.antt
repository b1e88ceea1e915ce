-- Where a cell goes to, from what the look-ups answer.
use mathlib.Core.Path.{◌≡◌}
use mathlib.Core.Bool.{true, false}
use Rattle.std.specs.Prelude.{Ok, Err}
use Rattle.rules.specs.declared.State.{State}
use Rattle.papers.specs.declared.refused.Field.{Field}
use Rattle.papers.specs.Fields.{first_bad_field}
use Rattle.tables.specs.declared.Controller.{Controller}
use Rattle.tables.specs.declared.Tables.{Tables}
use Rattle.tables.specs.names.Names.{state_at, is_state_name}
use Rattle.text.specs.Line.{Line, field}
use Rattle.lines.specs.Line.{sent_fields}
use Rattle.lines.specs.Checks.{all_messages, sent_names}
use Rattle.cells.specs.declared.targets.Sent.{Sent}
use Rattle.cells.specs.targets.Target.{named_sent, SentTold, TargetTold}
use Rattle.cells.proofs.Names.{ok-known, err-unknown}

module _ (f : Line) (whose : Controller) (t : Tables) where
  pub no-next : is_state_name t whose (field f 5) ≡ false → TargetTold f whose t (Err (record { 0 = 6 }))
  unfolding first_bad_field
  no-next a = rw a

  module _ (s : State) (a : (is_state_name t whose (field f 5) ≡ true) × (s ≡ record { 0 = state_at t whose (field f 5) })) where
    -- the next state is known, but not all that is sent
    pub not-sent : (k : Field) → SentTold (sent_fields f) t (Err k) → TargetTold f whose t (Err k)
    unfolding first_bad_field
    not-sent k e =
        let u = err-unknown (named_sent t (sent_fields f)) (sent_names t 7 (sent_fields f)) (all_messages t (sent_fields f)) k e in
        rw (a.0, u.0, u.1)

    pub targeted : (v : Sent) → SentTold (sent_fields f) t (Ok v) → TargetTold f whose t (Ok (record { next = s; sent = v }))
    targeted v e =
        let u = ok-known (named_sent t (sent_fields f)) (sent_names t 7 (sent_fields f)) (all_messages t (sent_fields f)) v e in
        rw (a.0, u.0, a.1, u.1)
