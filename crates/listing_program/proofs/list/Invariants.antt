-- What is held is within the input.
use Rattle.std.proofs.Common.{◌≤◌, length}
use Rattle.listing_program.proofs.list.Given as goal

abbrev pub invariant-loop : goal.invariant-loop
invariant-loop g l = l.session.held ≤ length l.input
