-- What is answered unless something is refused.
use mathlib.Core.Path.{◌≡◌, ap}
use mathlib.Core.Bool.{Bool, cond}
use borrow.Author.Tests.{eq-eqb, ne_eqb}
use Rattle.papers.specs.declared.Refusal.{Refusal}
use Rattle.protocol.specs.whole.Whole.{Reading, refused, unless}

pub unless-passed : (r : Refusal) (a : Reading) → r.number ≡ 0 → unless r a ≡ a
unless-passed r a e = ap (λ (b : Bool). cond b a (refused r)) (eq-eqb r.number 0 e)

pub unless-refused : (r : Refusal) (a : Reading) → (r.number ≡ 0 → ⊥) → unless r a ≡ refused r
unless-refused r a g = ap (λ (b : Bool). cond b a (refused r)) (ne_eqb r.number 0 g)
