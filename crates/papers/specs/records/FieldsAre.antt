-- The fields of a line, as a record keeps them.
use Rattle.std.specs.Prelude.{ℕ, ◌≡◌, List, length}
use Rattle.text.specs.declared.Fields.{Fields}
use Rattle.text.specs.Fields.{fields_of}

-- f has the places of the line's fields.
abbrev pub FieldsAre : List ℕ → Fields → Type 0
FieldsAre line f = f ≡ fields_of line 0 (length line)
