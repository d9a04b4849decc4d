-- What is written so far, with the slots that are left to write, makes the output that is to be.
use Rattle.std.proofs.Common.{◌≡◌, ◌+◌, ◌*◌, drop}
use Rattle.calls_program.specs.Responses.{out_with_slots}
use Rattle.calls_program.proofs.response.put_slots.Given as goal

abbrev pub invariant-loop-i : goal.invariant-loop-i
invariant-loop-i l = out_with_slots l.out (4 + 10 * l.i) (drop l.i l.slots) ≡ out_with_slots l.fn.out 4 l.slots
