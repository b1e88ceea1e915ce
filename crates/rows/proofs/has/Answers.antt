-- `rows::has` meets its contract.
use borrow.Author.Tests.{eqb-true, eq-eqb}
use Rattle.rows.proofs.has.Goals as goal

pub returns : goal.returns
returns c = (λ e. eqb-true _ _ e, λ b. eq-eqb _ _ b)
