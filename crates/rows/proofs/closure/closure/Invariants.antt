-- `rows::closure::closure` meets its contract.
use Rattle.rows.specs.Closure.{HeldBits}
use Rattle.rows.proofs.closure.Warshall.{CloseInv}
use Rattle.rows.proofs.closure.closure.Given as goal

abbrev pub invariant-loop-k : goal.invariant-loop-k
invariant-loop-k l = CloseInv l.initial.t l.n l.t l.k l.joins × HeldBits l.n l.t l.held
