use Rattle.std.proofs.Common.{◌≡◌, length}
use Rattle.slot.specs.Codes.{clashing}
use Rattle.slot.proofs.clash.Given as goal

abbrev pub invariant-loop-code : goal.invariant-loop-code
invariant-loop-code l = clashing l.codes ≡ clashing l.left

abbrev pub decreases-loop-code : goal.decreases-loop-code
decreases-loop-code l = length l.left
