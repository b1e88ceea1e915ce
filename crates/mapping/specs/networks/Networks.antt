-- "Network is decimal, 0 to 31, no leading zero"; by C-15 "network numbers to 63" under the second header. There are `most` networks: 32 or 64.
use Rattle.std.specs.Prelude.{Bool, cond, ltb, ℕ, List, Option, Some, None}
use Rattle.rules.specs.declared.Network.{Network}
use Rattle.rules.specs.Numbers.{as_network}
use Rattle.rules.specs.Lists.{up_to}
use Rattle.text.specs.Parts.{is_same_text, first_index}
use Rattle.text.specs.Written.{decimal}

abbrev pub written_as : List ℕ → ℕ → Bool
written_as x n = is_same_text (decimal n) x

-- The network that is written so, and `most` where none is.
unfoldable pub network_of_lem : ℕ → List ℕ → ℕ
network_of_lem most x = first_index (written_as x) (up_to most (λ n. n))

-- 15 NETWORK: "network field malformed or above 31", by header.
abbrev pub is_network : ℕ → List ℕ → Bool
is_network most x = ltb (network_of_lem most x) most

-- The network that a field is found to write.
unfoldable pub found_network : ℕ → List ℕ → Option Network
found_network most x = cond (is_network most x) (Some (as_network (network_of_lem most x))) None
