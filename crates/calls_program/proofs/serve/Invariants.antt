-- No more is held than there is room for.
use Rattle.std.proofs.Common.{◌≤◌, length}
use Rattle.calls_program.proofs.serve.Given as goal

abbrev pub invariant-loop : goal.invariant-loop
invariant-loop g l = l.held ≤ length l.input
