-- One line of a mapping text (01-scope.md, "The mapping text"): "`map` name network". Its checks, and what it gives.
use Rattle.std.specs.Prelude.{ℕ, ◌<◌, ◌≡◌, Bool, false, not, ◌&&◌, cond, List, [], ◌∷◌, length, eqb, leb, Result, Ok, Err, IfOk, ⊤}
use Rattle.text.specs.Parts.{is_same_text}
use Rattle.rules.specs.declared.Network.{Network}
use Rattle.rules.specs.Numbers.{as_network}
use Rattle.text.specs.Line.{Line, field, says}
use Rattle.text.specs.Name.{name_text}
use Rattle.text.specs.Words.{map_word}
use Rattle.papers.specs.declared.Refusal.{Refusal}
use Rattle.papers.specs.declared.refused.Field.{Field}
use Rattle.papers.specs.declared.refused.Refused.{Refused}
use Rattle.papers.specs.refused.Refused.{refusal_of}
use Rattle.papers.specs.Checks.{Check, check, field_check, first_of}
use Rattle.papers.specs.Fields.{looked, first_bad_field}
use Rattle.tables.specs.declared.MessageRow.{MessageRow}
use Rattle.mapping.specs.networks.Networks.{network_of_lem, is_network}

-- ---- a line's checks

-- 4 SHAPE: "unknown record, field count, or fixed word"
abbrev pub map_shaped : Line → Bool
map_shaped f = eqb (length f) 3 && says f 0 map_word

-- C-14: "SHAPE tells the first unknown or wrong fixed word, and 0 if only the count is wrong." The one fixed word is the record's.
abbrev pub map_shape_field : Line → ℕ
map_shape_field f = first_bad_field (looked 1 (not (says f 0 map_word)) ∷ [])

-- What is told of a line's shape: that it is a `map` line, or the field that 4 tells.
unfoldable pub map_shape : Line → Result ⊤ Field
map_shape f = cond (map_shaped f) (Ok tt) (Err (record { 0 = map_shape_field f }))

-- 14 UNMATCHED: "mapping line names another message than the next, or is one too many". `next` are the messages that have no line yet.
abbrev pub matches : List MessageRow → List ℕ → Bool
matches [] x = false
matches (m ∷ next) x = is_same_text (name_text m.name) x

-- C-14: "UNMATCHED by another name" tells the name's field; a line that is one too many tells none.
abbrev pub match_field : List MessageRow → ℕ
match_field [] = 0
match_field (m ∷ next) = 2

-- 9 FULL: "one more than a limit". "Under header 1 its 33rd `map` line is FULL", under header 2 the 65th: so many lines stand before it already.
abbrev pub maps_full : ℕ → ℕ → Bool
maps_full most before = leb most before

-- Line k is f, and `before` lines stand between the header and it. The header allows `most` lines, and as many networks.
-- "In a mapping 9 stands between 4 and 14." 15 NETWORK: "network field malformed or above 31", by header.
abbrev pub map_checks : ℕ → ℕ → List MessageRow → ℕ → Line → List Check
map_checks most before next k f =
    field_check 4 k (map_shape_field f) (not (map_shaped f))
    ∷ check 9 k (maps_full most before)
    ∷ field_check 14 k (match_field next) (not (matches next (field f 1)))
    ∷ field_check 15 k 3 (not (is_network most (field f 2)))
    ∷ []

unfoldable pub map_refusal : ℕ → ℕ → List MessageRow → ℕ → Line → Refusal
map_refusal most before next k f = first_of (map_checks most before next k f)

-- ---- what a line gives

-- Line k, where it is the turn of this message and the header allows one line more.
pub record MapTold (most k : ℕ) (m : MessageRow) (f : Line) (r : Result Network Refused) : Type 0 where
  pub told : (before : ℕ) → before < most → refusal_of r ≡ map_refusal most before (m ∷ []) k f
  pub network : IfOk r (λ n. n ≡ as_network (network_of_lem most (field f 2)))
