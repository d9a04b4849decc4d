-- `copying::copy_in`: the first j bytes are pasted after j rounds (Copying).
use Rattle.std.proofs.Common.{◌≡◌}
use Rattle.std.proofs.Math.Seq.{paste}
use Rattle.copying.proofs.copy_in.Given as goal

abbrev pub invariant-loop-j : goal.invariant-loop-j
invariant-loop-j l = l.target ≡ paste l.initial.target l.at l.bytes l.j
