-- What a text gives of itself is determined.
use Rattle.std.specs.Prelude.{ℕ, ◌≡◌, List, take}
use Rattle.determined.specs.Determined.{Determines}
use Rattle.determined.proofs.Equal.{equal}
use Rattle.files.specs.declared.Text.{Text}

pub as-slice-determined : (t : Text) → Determines (λ (r : List ℕ). r ≡ take t.count t.bytes)
as-slice-determined t = equal _
