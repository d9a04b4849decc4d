-- Those that are passed are read.
use Rattle.std.proofs.Common.{◌≡◌, ℕ, ◌<◌, length, slice_index}
use Rattle.calls_program.proofs.request.bytes.Given as goal

abbrev pub invariant-loop-i : goal.invariant-loop-i
invariant-loop-i g l =
    (length l.place-items ≡ l.i-end) × ((k : ℕ) → k < l.i → slice_index l.place-items k ≡ slice_index l.rest k)
