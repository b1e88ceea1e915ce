-- `verdicts::networks_of` meets its contract.
use mathlib.Core.Path.{ap}
use borrow.Author.Rules.{rules}
use Rattle.rules.specs.Numbers.{as_network}
use Rattle.verdicts.proofs.Turning.{turned}
use Rattle.verdicts.proofs.networks_of.Goals as goal

pub returns : goal.returns
returns c = turned as_network c.args.heights c.map.result 64 (search rules) c.map.ensures.items.long (λ i h. ap as_network (c.map.ensures.items.at i 0 (as_network 0) h).2.met)
