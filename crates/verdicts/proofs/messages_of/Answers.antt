-- `verdicts::messages_of` meets its contract.
use mathlib.Core.Path.{ap}
use borrow.Author.Rules.{rules}
use Rattle.rules.specs.Numbers.{as_message}
use Rattle.verdicts.proofs.Turning.{turned}
use Rattle.verdicts.proofs.messages_of.Goals as goal

pub returns : goal.returns
returns c = turned as_message c.args.numbers c.map.result 64 (search rules) c.map.ensures.items.long (λ i h. ap as_message (c.map.ensures.items.at i 0 (as_message 0) h).2.met)
