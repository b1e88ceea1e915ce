-- `mapping::lines::map_line` meets its contract.
use mathlib.Core.Path.{◌≡◌, sym, ap, ◌∙◌}
use native.Mathlib.Omega.{arith}
use Rattle.text.specs.Parts.{is_same_text, split}
use Rattle.text.specs.Line.{field}
use Rattle.text.specs.Name.{name_text}
use Rattle.mapping.specs.networks.Networks.{found_network}
use Rattle.mapping.proofs.networks.NetworkLaws.{is_found, not_found}
use Rattle.mapping.proofs.lines.LineLaws.{shaped-count, line-unmatched, line-no-network, line-passes, gives_none, gives-network}
use Rattle.mapping.proofs.lines.map_line.Goals.{After-named, After-network_of}
use Rattle.mapping.proofs.lines.map_line.Goals as goal

-- what was told of the name
matched : (c : After-named) → c.named.result ≡ is_same_text (name_text c.args.message.now.name) (field (split 9 c.args.line.now.bytes.now) 1)
matched c = c.named.ensures ∙ ap (is_same_text (name_text c.args.message.now.name)) c.field.ensures

-- what was told of the network
written : (c : After-network_of) → c.network_of.result ≡ found_network c.args.header.most (field (split 9 c.args.line.now.bytes.now) 2)
written c = c.network_of.ensures ∙ ap (found_network c.args.header.most) c.field-2.ensures

pub field-requires : goal.field-requires
field-requires c = omega (arith, shaped-count c.args.line.now c.requires)

pub returns-then-not-named : goal.returns-then-not-named
returns-then-not-named c =
    let name = matched (goal.at.returns-then-not-named c).After-named in
    gives_none _ _ _ _ _ (λ before room. line-unmatched c.args.header.most before _ _ c.requires room c.args.message.now (sym name ∙ c.if-not-named.true) ∙ sym c.at.ensures)

pub field-requires-2 : goal.field-requires-2
field-requires-2 c = omega (arith, shaped-count c.args.line.now c.requires)

pub returns-in_default : goal.returns-in_default
returns-in_default c =
    let name = matched (goal.at.returns-in_default c).After-named in
    let w = not_found c.args.header.most _ (sym c.in_default.is ∙ written (goal.at.returns-in_default c).After-network_of) in
    gives_none _ _ _ _ _ (λ before room. line-no-network c.args.header.most before _ _ c.requires room c.args.message.now (sym name ∙ c.if-not-named.false) w ∙ sym c.at-in_default.ensures)

pub returns : goal.returns
returns c =
    let name = matched (goal.at.returns c).After-named in
    let w = is_found c.args.header.most _ c.in-Some.network (sym c.in-Some.is ∙ written (goal.at.returns c).After-network_of) in
    gives-network _ _ _ _ _ (λ before room. line-passes c.args.header.most before _ _ c.requires room c.args.message.now (sym name ∙ c.if-not-named.false) w.0) w.1
