-- At most 255 for each byte passed.
use Rattle.std.proofs.Common.{◌*◌, ◌≤◌}
use Rattle.pace_program.proofs.total.Given as goal

abbrev pub invariant-loop-byte : goal.invariant-loop-byte
invariant-loop-byte l = l.sum ≤ 255 * l.byte-index
