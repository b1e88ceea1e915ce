-- `declarations::named_fields::declared_name` meets its contract.
use native.Mathlib.Omega.{arith}
use mathlib.Core.Path.{refl, sym, ◌∙◌}
use Rattle.text.proofs.NameLaws.{rule-length}
use Rattle.papers.specs.Checks.{first_of}
use Rattle.declarations.proofs.named_fields.declared_name.Goals as goal

pub returns-then-not-is_name : goal.returns-then-not-is_name
unfolding first_of
returns-then-not-is_name c = record { told = rw (sym c.is_name.ensures, c.if-not-is_name.true, c.at.ensures) refl; name = tt }

pub returns-then-declared : goal.returns-then-declared
unfolding first_of
returns-then-declared c = record { told = rw (sym c.is_name.ensures, c.if-not-is_name.false, c.if-declared.true, c.at-then-declared.ensures) refl; name = tt }

pub returns-then-full : goal.returns-then-full
unfolding first_of
returns-then-full c = record { told = rw (sym c.is_name.ensures, c.if-not-is_name.false, c.if-declared.false, c.if-full.true, c.whole.ensures) refl; name = tt }

pub name_of-requires : goal.name_of-requires
name_of-requires c = omega (arith, (rule-length c.args.part.now (sym c.is_name.ensures ∙ c.if-not-is_name.false)).1)

pub returns : goal.returns
unfolding first_of
returns c = record { told = rw (sym c.is_name.ensures, c.if-not-is_name.false, c.if-declared.false, c.if-full.false) refl; name = c.name_of.ensures }
