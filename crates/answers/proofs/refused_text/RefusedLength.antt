-- The line of a refusal is short.
use Prim.Native.Nat.{ℕ, ◌<◌, ◌≤◌}
use native.Mathlib.Omega.{arith}
use lib.ListN.{length, length-append}
use Rattle.text.proofs.Written.{decimal-length}
use Rattle.papers.specs.declared.Refusal.{Refusal}
use Rattle.answers.specs.refused_text.RefusedText.{tabbed_number, refused_text_lem}

pub refused-short : (why : Refusal) (paper : ℕ) → why.number < 100 → paper < 10 → why.line < 100000 → why.field < 100 → length (refused_text_lem why paper) ≤ 23
unfolding refused_text_lem tabbed_number
refused-short why paper h k g f =
    let a = decimal-length 1 why.number h in
    let b = decimal-length 0 paper k in
    let c = decimal-length 4 why.line g in
    let d = decimal-length 1 why.field f in
    simp length-append (omega arith)
