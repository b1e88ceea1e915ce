-- `plan::plan` meets its contract.
use mathlib.Core.Path.{refl}
use Rattle.protocol.specs.whole.Whole.{accepted}
use Rattle.reading_laws.proofs.protocols.Accepted.{call-ready}
use Rattle.plan.proofs.plan.Goals as goal

pub plan_tables-requires : goal.plan_tables-requires
plan_tables-requires c = call-ready c.args.text.now (accepted c.in-Ok.t) c.in-Ok.ensures refl
