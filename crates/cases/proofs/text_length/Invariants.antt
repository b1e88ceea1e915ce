-- So far the bytes that `cases::text_length` counts are not above the most.
use Rattle.std.proofs.Common.{◌≤◌}
use Rattle.cases.proofs.text_length.Given as goal

abbrev pub invariant-loop : goal.invariant-loop
invariant-loop g l = l.bytes ≤ 65536
