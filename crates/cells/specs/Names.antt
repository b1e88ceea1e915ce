-- What the names of a line tell: what they stand for where all of them are known, and else the first field that is not.
use Rattle.std.specs.Prelude.{Bool, cond, List, Result, Ok, Err}
use Rattle.papers.specs.declared.refused.Field.{Field}
use Rattle.papers.specs.Fields.{Looked, first_bad_field}

abbrev pub known_or_field : {A : Type 0} → Bool → A → List Looked → Result A Field
known_or_field known x names = cond known (Ok x) (Err (record { 0 = first_bad_field names }))
