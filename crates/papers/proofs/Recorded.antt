-- The fields of a record: how many there are, and where each stands.
use Prim.Native.Nat.{ℕ, ◌-◌, ◌≤◌, ◌<◌}
use mathlib.Core.Path.{◌≡◌, sym, ap, subst}
use mathlib.Core.List.{List}
use native.Mathlib.Omega.{arith}
use lib.ListN.{length, get_or}
use lib.Seq.{take_all}
use Rattle.papers.specs.declared.records.Record.{Record}
use Rattle.text.specs.declared.Fields.{Fields}
use Rattle.text.specs.Parts.{split}
use Rattle.text.specs.Fields.{no_span, line_fields_lem, fields_of}
use Rattle.text.proofs.FieldLaws.{FieldAt, field_at, count-few, count-full, count-le, count-some}
use Rattle.text.specs.Line.{field}

module _ (r : Record) where
  abbrev line : List ℕ
  line = r.bytes.now

  -- the record is the whole of its line
  whole : line_fields_lem line 0 (length line) ≡ split 9 line
  whole = ap (split 9) (take_all (length line - 0) line (omega arith))

  same : r.fields.count ≡ (fields_of line 0 (length line)).count
  same = ap (λ (f : Fields). f.count) r.are

  pub few : r.fields.count ≤ 15
  few = omega (arith, same, count-le line 0 (length line))

  pub some : 1 ≤ r.fields.count
  some = omega (arith, same, count-some line 0 (length line))

  -- fewer than fifteen are all there are
  pub counted : r.fields.count < 15 → length (split 9 line) ≡ r.fields.count
  counted h = omega (arith, same, ap length whole, count-few line 0 (length line) (omega (arith, same)))

  -- fifteen are too many
  pub many : r.fields.count ≡ 15 → 15 ≤ length (split 9 line)
  many h = omega (arith, ap length whole, count-full line 0 (length line) (omega (arith, same)))

  -- where the line has at most fourteen fields the count is theirs
  pub count-short : length (split 9 line) ≤ 14 → r.fields.count ≡ length (split 9 line)
  count-short h = grind (arith, few, counted, many)

  -- where the field at i stands
  pub at_field : (i : ℕ) → i < r.fields.count → FieldAt line 0 (length line) (get_or r.fields.spans i no_span) (field (split 9 line) i)
  at_field i =
      subst (λ (f : Fields). i < f.count → FieldAt line 0 (length line) (get_or f.spans i no_span) (field (split 9 line) i)) (sym r.are)
      (λ h. rw whole at (field_at line 0 (length line) i (omega arith) (omega arith) h))
