-- The work so far, with what is left of the turns, comes to the work of all turns.
use Rattle.std.proofs.Common.{◌≡◌, ◌-◌, length}
use Rattle.calls_program.specs.Working.{as_work, worked, worked_off}
use Rattle.calls_program.proofs.work_off.Given as goal

abbrev pub invariant-loop : goal.invariant-loop
invariant-loop l =
    worked (length l.input - l.counter) (as_work l.bench l.work l.output) l.input ≡ worked_off l.fn.bench l.input l.fn.output
