-- `text::writers::put_number` meets its contract.
use mathlib.Core.Path.{◌≡◌, sym, ap}
use lib.ListN.{length}
use Rattle.text.specs.Written.{decimal}
use Rattle.text.proofs.Written.{decimal-small, length-step, number_small, number_step}
use native.Mathlib.Omega.{arith}
use borrow.Author.Rules.{rules}
use Prim.Native.Nat.{◌<◌, ◌≤◌, ◌/◌}
use Rattle.text.proofs.writers.+put_number.Goals as goal

pub bounds-out-0 : goal.bounds-out-0
bounds-out-0 t c = omega (arith, ap length (decimal-small c.args.n c.if-n-lt10.true))

pub returns-then-n-lt10 : goal.returns-then-n-lt10
returns-then-n-lt10 t c =
    let room : 0 < length c.args.out.now = omega (arith, ap length (decimal-small c.args.n c.if-n-lt10.true)) in
    record {
      count = sym (ap length (decimal-small c.args.n c.if-n-lt10.true));
      bytes = number_small c.args.n c.args.out.now c.if-n-lt10.true room;
    }

pub put_number-at-requires : goal.put_number-at-requires
put_number-at-requires t c = (search rules, omega (arith, length-step c.args.n (omega arith), c.requires))

pub bounds-out-at : goal.bounds-out-at
bounds-out-at t c = omega (arith, length-step c.args.n (omega arith), c.requires)

pub returns : goal.returns
returns t c =
    let n = c.args.n in
    let old = c.args.out.now in
    let more : 10 ≤ n = omega arith in
    let long = length-step n more in
    let e : c.put_number-at.result ≡ length (decimal (n / 10)) = c.put_number-at.ensures.count in
    record { count = omega arith; bytes = rw c.put_number-at.ensures.bytes (number_step n c.put_number-at.result old more e (omega (arith, c.requires))) }
