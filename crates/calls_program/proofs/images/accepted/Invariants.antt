-- What is written so far, with what is left to write, makes the bytes that are to be (Steps).
use Rattle.std.proofs.Common.{◌≡◌, ℕ, ◌-◌, ◌<◌, ◌++◌, Bool, length, take}
use Rattle.calls_program.specs.Images.{accepted_bytes}
use Rattle.calls_program.proofs.images.accepted.Given as goal

abbrev pub invariant-loop-byte : goal.invariant-loop-byte
invariant-loop-byte g l =
    (test : ℕ → Bool) → ((id : ℕ) (ok : Bool) → id < 65536 → goal.F-post g l.accepts id ok → ok ≡ test id)
    → take l.byte-index l.bytes ++ accepted_bytes test (length l.fn.bytes - l.byte-index) l.id ≡ accepted_bytes test (length l.fn.bytes) l.first
