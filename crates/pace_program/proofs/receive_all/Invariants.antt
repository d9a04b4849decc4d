-- Each turn gives one packet at most, and the image stands at 0 or within 16.
use Rattle.std.proofs.Common.{◌≤◌}
use Rattle.pace_program.proofs.receive_all.Given as goal

abbrev pub invariant-loop : goal.invariant-loop
invariant-loop l = (l.at ≤ 16) × (l.sum ≤ l.counter)
