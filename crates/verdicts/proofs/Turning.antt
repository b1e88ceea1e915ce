-- Bytes turned into numbers of a type of their own, one by one.
use Prim.Native.Nat.{ℕ, ◌<◌}
use mathlib.Core.Path.{◌≡◌, sym, ◌∙◌}
use mathlib.Core.List.{List, map}
use native.Mathlib.Omega.{arith}
use lib.ListN.{length, get_or}
use Rattle.std.proofs.lemmas.List.{ext_get_or, get_or-map, length-map}

pub turned : {A : Type 0} (f : ℕ → A) (bytes : List ℕ) (l : List A) (n : ℕ) → length bytes ≡ n → length l ≡ n
    → ((i : ℕ) → i < n → get_or l i (f 0) ≡ f (get_or bytes i 0)) → l ≡ map f bytes
turned f bytes l n e long each =
    ext_get_or (f 0) l (map f bytes) (long ∙ sym (length-map bytes f ∙ e))
    (λ i h. each i (omega arith) ∙ sym (get_or-map f bytes i 0 (f 0) (omega arith)))
