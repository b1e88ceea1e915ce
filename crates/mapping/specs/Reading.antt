-- Reading a mapping text (01-scope.md, "The mapping text"): "`map` name network, one line for each message in message order".
use Rattle.std.specs.Prelude.{ℕ, suc, ◌-◌, cond, List, [], ◌∷◌, ◌++◌, map, length, drop, replicate, eqb, Result, Ok, Err}
use Rattle.text.specs.Parts.{split, lines}
use Rattle.rules.specs.declared.Network.{Network}
use Rattle.rules.specs.Numbers.{as_network}
use Rattle.papers.specs.declared.Refusal.{Refusal}
use Rattle.papers.specs.Checks.{refusal, none}
use Rattle.papers.specs.declared.refused.Refused.{Refused}
use Rattle.papers.specs.refused.Refused.{told_refusal}
use Rattle.papers.specs.Opening.{opening_of}
use Rattle.tables.specs.declared.MessageRow.{MessageRow}
use Rattle.mapping.specs.networks.Networks.{network_of_lem}
use Rattle.text.specs.Line.{field}
use Rattle.mapping.specs.Headers.{Header, header_of}
use Rattle.mapping.specs.lines.Line.{map_refusal}
use Rattle.mapping.specs.Mapped.{Mapped}

-- ---- the reading

-- Networks past the last message are 0.
abbrev pub maps_accepted : List ℕ → Mapped
maps_accepted ns = record { refusal = none; networks = map as_network (ns ++ replicate (64 - length ns) 0) }

abbrev pub maps_refused : Refusal → Mapped
maps_refused r = record { refusal = r; networks = replicate 64 (as_network 0) }

-- The answer, where nothing is refused.
abbrev pub maps_unless : Refusal → Mapped → Mapped
maps_unless r a = cond (eqb r.number 0) a (maps_refused r)

-- 14 UNMATCHED: "or the text ends early: last line + 1". No line is left, and k is the number of the next.
abbrev pub end_of : List MessageRow → ℕ → List ℕ → Mapped
end_of [] k ns = maps_accepted ns
end_of (m ∷ next) k ns = maps_refused (refusal 14 k)

-- The lines from line k on, under a header that allows `most` of them: `next` have no line yet, and ns are the networks of the messages before them,
-- as many as there were lines.
unfoldable pub read_maps : ℕ → ℕ → List (List ℕ) → List MessageRow → List ℕ → Mapped
read_maps most k [] next ns = end_of next k ns
read_maps most k (l ∷ ls) next ns =
    let rest = read_maps most (suc k) ls (drop 1 next) (ns ++ (network_of_lem most (field (split 9 l) 2) ∷ [])) in
    maps_unless (map_refusal most (length ns) next k (split 9 l)) rest

-- The order: 1, 2, 3, then the first bad line. The messages are those of the protocol.
abbrev pub read_under : Header → List MessageRow → List ℕ → Mapped
read_under header messages text =
    let body = read_maps header.most 2 (drop 1 (lines text)) messages [] in
    maps_unless (opening_of header.line text) body

unfoldable pub read_mapping_lem : List MessageRow → List ℕ → Mapped
read_mapping_lem messages text = read_under (header_of text) messages text

-- ---- the code's answer

-- What an answer of the code says of the mapping.
abbrev pub mapped_of : Result (List Network) Refused → Mapped
mapped_of (Ok ns) = record { refusal = none; networks = ns }
mapped_of (Err r) = maps_refused (told_refusal r)
