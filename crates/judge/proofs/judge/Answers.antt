-- `judge::judge` meets its contract.
use mathlib.Core.Path.{refl}
use Rattle.protocol.specs.whole.Whole.{accepted}
use Rattle.reading_laws.proofs.protocols.Accepted.{call-ready}
use Rattle.judge.proofs.judge.Goals as goal

pub judge_mapping-requires : goal.judge_mapping-requires
judge_mapping-requires c = call-ready c.args.protocol.now (accepted c.in-Ok.t) c.in-Ok.ensures refl
