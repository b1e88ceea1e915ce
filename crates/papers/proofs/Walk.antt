-- A reader's walk from line to line: what is left of the text is empty or ends with byte 10.
use mathlib.Core.Path.{◌≡◌}
use mathlib.Core.List.{List, ◌∷◌}
use Prim.Native.Nat.{ℕ, ◌+◌, ◌≤◌, ◌<◌}
use native.Mathlib.Omega.{arith}
use lib.ListN.{length, drop}
use Rattle.text.specs.Parts.{part, place, lines}
use Rattle.papers.specs.Lined.{Lined}
use Rattle.text.proofs.Parts.{place-from}
use Rattle.text.proofs.Lines.{lines_next, line-ends}

-- The line at a place ends at e, and the next one starts behind that.
pub record NextLine (text : List ℕ) (at e : ℕ) : Type 0 where
  pub from : at ≤ e
  pub ends : e < length text
  pub first : lines (drop at text) ≡ part text at e ∷ lines (drop (e + 1) text)
  pub more : Lined text (e + 1)

-- there is a next line
pub walk-next : (text : List ℕ) (at : ℕ) → Lined text at → at < length text → NextLine text at (place 10 text at (length text))
walk-next text at g h =
    let ends = line-ends text at h (g.last h) in
    record {
      from = place-from 10 text at (length text) g.within (omega arith);
      ends = ends;
      first = lines_next text at g.within ends;
      more = record { within = omega arith; last = λ k. g.last h };
    }
