-- `text::names::name_byte` meets its contract.
use native.Mathlib.Omega.{arith}
use Rattle.std.proofs.lemmas.Bool.Decides.{nat_tests}
use Rattle.text.specs.Name.{is_name_byte}
use Rattle.text.proofs.names.name_byte.Goals as goal

pub returns-then-is_ascii_alphanumeric : goal.returns-then-is_ascii_alphanumeric
unfolding is_name_byte
returns-then-is_ascii_alphanumeric c = grind (arith, nat_tests)

pub returns-else-is_ascii_alphanumeric : goal.returns-else-is_ascii_alphanumeric
unfolding is_name_byte
returns-else-is_ascii_alphanumeric c = grind (arith, nat_tests)
