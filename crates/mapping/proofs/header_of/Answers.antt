-- `mapping::header_of` meets its contract.
use mathlib.Core.Path.{◌≡◌, sym, ap, ◌∙◌}
use Rattle.mapping.specs.Headers.{Header, header1, header2, header_of}
use Rattle.mapping.proofs.Told.{ok_told, err_told}
use Rattle.mapping.proofs.ReadLaws.{is-first, is-second}
use Rattle.mapping.proofs.header_of.Goals.{Then-is_ok, Else-is_ok}
use Rattle.mapping.proofs.header_of.Goals as goal

-- the text opens with the second header
second : (c : Then-is_ok) → header2 ≡ header_of c.args.text.now
second c = sym (is-second c.args.text.now (ok_told c.opening.result _ c.opening.ensures (sym c.is_ok.ensures.value ∙ c.if-is_ok.true)))

-- it does not
first : (c : Else-is_ok) → header1 ≡ header_of c.args.text.now
first c = sym (is-first c.args.text.now (err_told c.opening.result _ c.opening.ensures (sym c.is_ok.ensures.value ∙ c.if-is_ok.false)))

pub returns-then-is_ok-clause-line : goal.returns-then-is_ok-clause-line
returns-then-is_ok-clause-line c = ap (λ (h : Header). h.line) (second (goal.at.returns-then-is_ok-clause-line c).Then-is_ok)

pub returns-then-is_ok-clause-most : goal.returns-then-is_ok-clause-most
returns-then-is_ok-clause-most c = ap (λ (h : Header). h.most) (second (goal.at.returns-then-is_ok-clause-most c).Then-is_ok)

pub returns-clause-line : goal.returns-clause-line
returns-clause-line c = ap (λ (h : Header). h.line) (first (goal.at.returns-clause-line c).Else-is_ok)

pub returns-clause-most : goal.returns-clause-most
returns-clause-most c = ap (λ (h : Header). h.most) (first (goal.at.returns-clause-most c).Else-is_ok)
