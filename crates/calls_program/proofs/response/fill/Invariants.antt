-- What is written so far, with what is left to write, makes the bytes that are to be (Steps).
use Rattle.std.proofs.Common.{◌≡◌, ◌-◌, ◌++◌, length, take}
use Rattle.calls_program.specs.Responses.{filled_bytes}
use Rattle.calls_program.proofs.response.fill.Given as goal

abbrev pub invariant-loop-byte : goal.invariant-loop-byte
invariant-loop-byte l =
    take l.byte-index l.bytes ++ filled_bytes (length l.fn.bytes - l.byte-index) l.next l.step ≡ filled_bytes (length l.fn.bytes) l.first l.step
